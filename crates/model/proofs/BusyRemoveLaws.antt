-- An accepted removal takes from the steps that the job has left those that it saves.
use Rattle.std.specs.Prelude.{◌≡◌, ◌≢◌, Bool, cond, ◌&&◌, List, ℕ, ◌+◌, ◌≤◌}
use Rattle.std.proofs.Math.Path.{refl, ap}
use Rattle.std.proofs.Common.{sym, ◌∙◌}
use Rattle.std.proofs.Math.Bool.{true, false, not}
use native.Mathlib.Omega.{arith}
use Rattle.std.proofs.Math.Dec.{eqb}
use Rattle.lists.specs.Lists.{any, tally}
use Rattle.lists.specs.ListsLaws.{eqb_yes, eqb-eq, any-yes, any-no}
use Rattle.page.specs.declared.Pair.{Pair}
use Rattle.page.specs.declared.Entry.{Entry}
use Rattle.page.specs.Pair.{same, is}
use Rattle.page.specs.PairLaws.{no_way, same-sym}
use Rattle.model.specs.Index.{Job, idle, copying, clearing, Index, entries_in, chain, entries_at, bucket}
use Rattle.model.specs.Index.{new_bucket, old_bucket}
use Rattle.model.specs.Pages.{without, cut}
use Rattle.model.specs.Steps.{moves, copies_left}
use Rattle.model.specs.Calls.{done, cut_held, remove}
use Rattle.model.specs.WellFormed.{WF}
use Rattle.model.specs.TallyLaws.{any-more}
use Rattle.model.specs.PairTallyLaws.{tally-with, tally-others, others-agree}
use Rattle.model.specs.ChainLaws.{tally-without}
use Rattle.model.specs.PlacedLaws.{idle-copying, clearing-copying}
use Rattle.model.specs.StandLaws.{number-here, number-there}
use Rattle.model.proofs.HeldLaws.{old-new, old-range}
use Rattle.model.proofs.RemoveLaws.{cut_old, cut_both, new-fits}
use Rattle.model.proofs.ViewLaws.{Removing, removed, remove-view}
use Rattle.model.specs.StepsLeft.{old_entries, steps_left}
use Rattle.model.specs.Busy.{saved_in, saved}
use Rattle.model.proofs.StepsLeftLaws.{stands-once, steps_left-at, steps_left-same}
use Rattle.model.proofs.BusyChainLaws.{lacks, home-old, home-copies}

module _ (x : Index) (w : WF x) (q : Pair) where
  -- ---- where the pair's bucket is its only place

  others : (g : Pair → Bool) → g q ≡ false
      → tally (λ e. g e.pair) (entries_in (without q (chain x (bucket x q))))
      ≡ tally (λ e. g e.pair) (entries_at x (bucket x q))
  others g z =
      tally-without (λ e. g e.pair) q (chain x (bucket x q)) ∙ tally-others g q (entries_at x (bucket x q)) z

  home-steps_left : (x.job ≡ copying → bucket x q ≢ new_bucket x) → steps_left (cut q (bucket x q) x) ≡ steps_left x
  unfolding cut
  home-steps_left ne =
      let c = without q (chain x (bucket x q)) in
      steps_left-same x (cut q (bucket x q) x) refl (home-old x w.laid q x.spares c others)
      (λ j. home-copies x w.laid q x.spares c others (ne j))

  -- ---- a pair of the new bucket while copying: from the old chain, then from the new

  abbrev new : ℕ
  new = new_bucket x

  abbrev olds : List Entry
  olds = entries_at x (old_bucket x)

  abbrev both : Index
  both = cut_both x w q

  -- of the old entries those of other pairs are left
  old-left : (t : Entry → Bool) → tally t (entries_at both (old_bucket x)) ≡ tally (λ e. not (is q e) && t e) olds
  unfolding cut
  old-left t =
      number-there (cut_old x w q) x.spares new _ (new-fits x w q) t (old_bucket x) (old-new x w.laid)
      ∙ number-here x x.spares (old_bucket x) (without q (chain x (old_bucket x))) (old-range x w.laid) t
      ∙ tally-without t q (chain x (old_bucket x))

  -- and in the new bucket other pairs stand as they did
  new-left : (p : Pair) → same q p ≡ false → any (is p) (entries_at both new) ≡ any (is p) (entries_at x new)
  unfolding cut
  new-left p k =
      any-more (is p) (entries_at x new) (entries_at both new) false
      (omega (
        arith,
        number-here (cut_old x w q) x.spares new (without q (chain (cut_old x w q) new)) (new-fits x w q) (is p),
        tally-without (is p) q (chain (cut_old x w q) new),
        tally-others (same p) q (entries_at (cut_old x w q) new) (same-sym p q ∙ k),
        number-there x x.spares (old_bucket x) (without q (chain x (old_bucket x))) (old-range x w.laid) (is p) new
            (λ e. old-new x w.laid (sym e)),
      ))

  module _ (e : bucket x q ≡ new_bucket x) where
    both-old : old_entries both + tally (is q) olds ≡ old_entries x
    unfolding cut
    both-old =
        omega (
          arith,
          old-left (moves x),
          tally-with (λ p. eqb (bucket x p) new) q olds (eqb_yes (bucket x q) new e),
        )

    copies-left : copies_left both ≡ tally (λ d. not (is q d) && lacks x (entries_at x new) d.pair) olds
    unfolding cut
    copies-left =
        old-left (λ d. lacks x (entries_at both new) d.pair)
        ∙ others-agree (lacks x (entries_at both new)) (lacks x (entries_at x new)) q olds
        (λ p k. ap (λ (b : Bool). eqb (bucket x p) new && not b) (new-left p k))

    both-copies : (c : Bool) → any (is q) (entries_at x new) ≡ c
        → copies_left both + cond c 0 (tally (is q) olds) ≡ copies_left x
    both-copies true k =
        omega (
          arith,
          copies-left,
          tally-others (lacks x (entries_at x new)) q olds (rw (k, eqb_yes (bucket x q) new e)),
        )
    both-copies false k =
        omega (
          arith,
          copies-left,
          tally-with (lacks x (entries_at x new)) q olds (rw (k, eqb_yes (bucket x q) new e)),
        )

    both-steps_left : x.job ≡ copying → (o c : Bool) → any (is q) olds ≡ o → any (is q) (entries_at x new) ≡ c
        → steps_left both + saved_in copying true o c ≡ steps_left x
    unfolding cut
    both-steps_left j o c k l = rw (steps_left-at both copying j, steps_left-at x copying j) (go o c k l)
      where
        go : (o c : Bool) → any (is q) olds ≡ o → any (is q) (entries_at x new) ≡ c
            → ((copies_left both + 1) + (old_entries both + 1)) + saved_in copying true o c
            ≡ (copies_left x + 1) + (old_entries x + 1)
        go false true k l = omega (arith, both-old, both-copies true l, any-no (is q) olds k)
        go false false k l = omega (arith, both-old, both-copies false l, any-no (is q) olds k)
        go true true k l =
            omega (arith, both-old, both-copies true l, any-yes (is q) olds k, stands-once x w q (old_bucket x))
        go true false k l =
            omega (arith, both-old, both-copies false l, any-yes (is q) olds k, stands-once x w q (old_bucket x))

  -- ---- by the job and whether the pair maps to the new bucket

  cuts-steps_left : (j : Job) (b : Bool) → x.job ≡ j → eqb (bucket x q) new ≡ b
      → steps_left (cut_held j x q b) + saved_in j b (any (is q) olds) (any (is q) (entries_at x new)) ≡ steps_left x
  cuts-steps_left idle b e k = omega (arith, home-steps_left (λ f. absurd (idle-copying (sym e ∙ f))))
  cuts-steps_left clearing b e k = omega (arith, home-steps_left (λ f. absurd (clearing-copying (sym e ∙ f))))
  cuts-steps_left copying true e k = both-steps_left (eqb-eq (bucket x q) new k) e _ _ refl refl
  cuts-steps_left copying false e k =
      omega (arith, home-steps_left (λ _ f. no_way (eqb_yes (bucket x q) new f) k))

pub remove-steps_left : (x : Index) (q : Pair) (y : Index) → WF x → remove x q ≡ done y
    → steps_left y + saved x q ≡ steps_left x
unfolding saved
remove-steps_left x q y w h = view (rw h at (remove-view x q))
  where
    view : {z : Index} → Removing x q (done z) → steps_left z + saved x q ≡ steps_left x
    view (removed k l) = cuts-steps_left x w q x.job (eqb (bucket x q) (new_bucket x)) refl refl

-- two at most
pub saved-le : (x : Index) (q : Pair) → saved x q ≤ 2
unfolding saved
saved-le x q = go x.job _ _ _
  where
    go : (j : Job) (b o c : Bool) → saved_in j b o c ≤ 2
    go idle b o c = omega arith
    go clearing b o c = omega arith
    go copying false o c = omega arith
    go copying true false c = omega arith
    go copying true true false = omega arith
    go copying true true true = omega arith
