-- An accepted insert leaves the job the steps that it has left.
use Rattle.std.specs.Prelude.{◌≡◌, refl, Bool, false, not, ◌&&◌, List, ℕ, ◌+◌, eqb}
use Rattle.std.proofs.Common.{sym, ap, ◌∙◌, subst, arith}
use Rattle.std.proofs.Math.Decide.{ℕ_discrete}
use Rattle.lists.specs.Lists.{b2n, any, tally}
use Rattle.page.specs.declared.Pair.{Pair}
use Rattle.page.specs.declared.Entry.{Entry}
use Rattle.page.specs.Pair.{same, is}
use Rattle.page.specs.PairLaws.{same-sym}
use Rattle.model.specs.Index.{Chain, copying, Index, entries_in, entries_at, bucket, new_bucket, old_bucket}
use Rattle.model.specs.Held.{held}
use Rattle.model.specs.Steps.{copies_left}
use Rattle.model.specs.Calls.{done, insert}
use Rattle.model.specs.WellFormed.{unmoved_at, moved_at, WF}
use Rattle.model.specs.TallyLaws.{any-more}
use Rattle.model.specs.PairTallyLaws.{all-agree}
use Rattle.model.specs.PlacedLaws.{held_new}
use Rattle.model.specs.StandLaws.{number-here}
use Rattle.model.proofs.HeldLaws.{home-range, is-parts, held-no}
use Rattle.model.specs.BecomesLaws.{held_in-at}
use Rattle.model.proofs.ViewLaws.{unmoved_entry, put_as, Inserting, inserted, insert-view}
use Rattle.model.specs.StepsLeft.{steps_left}
use Rattle.model.proofs.StepsLeftLaws.{steps_left-same}
use Rattle.model.proofs.BusyChainLaws.{lacks, reset, new-there, home-old, home-copies}

module _ (x : Index) (w : WF x) (q : Pair) (sp : List ℕ) (c : Chain)
    (add : (t : Entry → Bool) → tally t (entries_in c) ≡ b2n (t (unmoved_entry q)) + tally t (entries_at x (bucket x q)))
    (nh : held x q ≡ false) where
  abbrev after : Index
  after = reset x w.laid q sp c

  others : (g : Pair → Bool) → g q ≡ false
      → tally (λ e. g e.pair) (entries_in c) ≡ tally (λ e. g e.pair) (entries_at x (bucket x q))
  others g z = add (λ e. g e.pair) ∙ rw z (omega arith)

  -- into the new bucket while copying: the pair is not among the old entries
  new-copies : x.job ≡ copying → bucket x q ≡ new_bucket x → copies_left after ≡ copies_left x
  new-copies j e =
      ap (tally (λ d. lacks x (entries_at after n) d.pair)) (new-there x w.laid q sp c e)
      ∙ all-agree (lacks x (entries_at after n)) (lacks x (entries_at x n)) q (entries_at x o)
      (λ p k. ap (λ (b : Bool). eqb (bucket x p) n && not b) (has p k)) none
    where
      n : ℕ
      n = new_bucket x

      o : ℕ
      o = old_bucket x

      has : (p : Pair) → same q p ≡ false → any (is p) (entries_at after n) ≡ any (is p) (entries_at x n)
      has p k =
          any-more (is p) (entries_at x n) (entries_at after n) false
          (subst (λ (b : ℕ). tally (is p) (entries_at after b) ≡ 0 + tally (is p) (entries_at x b)) e
          (number-here x sp (bucket x q) c (home-range x w.laid q) (is p) ∙ add (is p)
          ∙ rw (same-sym p q, k) refl))

      none : tally (is q) (entries_at x o) ≡ 0
      none =
          omega (
            arith,
            is-parts q (entries_at x o),
            held-no x q nh,
            held_in-at x copying j q,
            held_new n o (bucket x q) (unmoved_at x q) (moved_at x q) e,
          )

  put-steps_left : steps_left after ≡ steps_left x
  put-steps_left =
      steps_left-same x after refl (home-old x w.laid q sp c others)
      (λ j. go j (ℕ_discrete (bucket x q) (new_bucket x)))
    where
      go : x.job ≡ copying → Dec (bucket x q ≡ new_bucket x) → copies_left after ≡ copies_left x
      go j (yes k) = new-copies j k
      go j (no k) = home-copies x w.laid q sp c others k

pub insert-steps_left : (x : Index) (q : Pair) (y : Index) → WF x → insert x q ≡ done y → steps_left y ≡ steps_left x
insert-steps_left x q y w h = view (rw h at (insert-view x q))
  where
    view : Inserting x q (done y) → steps_left y ≡ steps_left x
    view (inserted k nh v) =
        let a = put_as v in
        subst (λ (z : Index). steps_left z ≡ steps_left x) (sym a.index)
        (put-steps_left x w q a.spares a.pages a.numbers nh)
