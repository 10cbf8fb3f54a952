-- An accepted removal keeps the index well-formed and leaves its pair not held; no other pair's holding changes.
use Rattle.std.specs.Prelude.{◌≡◌, ◌≢◌, cond, ◌&&◌, eqb, length}
use Rattle.std.proofs.Math.Path.{refl, subst}
use Rattle.std.proofs.Common.{sym, ◌∙◌}
use Rattle.std.proofs.Math.Bool.{Bool, true, false, not}
use Prim.Native.Nat.{ℕ, ◌≤◌, ◌<◌}
use native.Mathlib.Omega.{arith}
use Rattle.std.proofs.Math.ListN.{length-set}
use Rattle.lists.specs.Lists.{b2n, tally}
use Rattle.lists.specs.ListsLaws.{eqb_yes, eqb-eq}
use Rattle.page.specs.declared.Pair.{Pair}
use Rattle.page.specs.Pair.{same}
use Rattle.page.specs.PairLaws.{no_way, same-eq}
use Rattle.model.specs.Index.{Job, idle, copying, clearing, Index, chain, entries_at, bucket, new_bucket}
use Rattle.model.specs.Index.{old_bucket}
use Rattle.model.specs.Pages.{without, cut}
use Rattle.model.specs.Held.{held}
use Rattle.model.specs.Calls.{done, cut_held, remove}
use Rattle.model.specs.WellFormed.{unmoved_at, moved_at, Laid, WF}
use Rattle.model.specs.HeldIn.{held_in}
use Rattle.model.specs.PlacedLaws.{idle-copying, clearing-copying, turned_same, remove-placed}
use Rattle.model.specs.StandLaws.{having, marked, cut-same, cut-here, cut-less}
use Rattle.model.proofs.HeldLaws.{old-new, home-range, old-range, new-range, held_in-held, held-is}
use Rattle.model.proofs.LaidLaws.{cut-laid}
use Rattle.model.proofs.ViewLaws.{Removing, removed, remove-view}
use Rattle.model.specs.BecomesLaws.{TurnedTo, without_pair, Becomes, becomes}

module _ (x : Index) (w : WF x) (q : Pair) where
  -- where the pair's bucket is its only place
  home-turned : (x.job ≡ copying → bucket x q ≢ new_bucket x) → (p : Pair) (d : Bool) → same p q ≡ d
      → TurnedTo (cut q (bucket x q) x) p (cond d 0 (held_in x p))
  unfolding held_in cut
  home-turned ne p false k =
      turned_same x.job (new_bucket x) (old_bucket x) (bucket x p) (unmoved_at x p) (moved_at x p) _ _ _
      (record { placed = w.placed p; number = refl })
      (cut-same x (bucket x q) (home-range x w.laid q) q not p k)
      (cut-same x (bucket x q) (home-range x w.laid q) q marked p k)
  home-turned ne p true k =
      subst (λ (r : Pair). TurnedTo (cut q b x) r 0) (sym (same-eq p q k))
      (remove-placed (new_bucket x) (old_bucket x) b (old-new x w.laid) (unmoved_at x q) (moved_at x q) _ _
      x.job (w.placed q) (cut-less x b fits q not) (cut-less x b fits q marked)
      (omega (arith, cut-here x b fits q not, cut-here x b fits q marked))
      (λ c e. absurd (ne c e)))
    where
      b : ℕ
      b = bucket x q

      fits : b < length x.chains
      fits = home-range x w.laid q

  -- a pair of the new bucket while copying: from the old chain, then from the new
  abbrev pub cut_old : Index
  cut_old = cut q (old_bucket x) x

  abbrev pub cut_both : Index
  cut_both = cut q (new_bucket x) cut_old

  pub new-fits : new_bucket x < length cut_old.chains
  unfolding cut
  new-fits =
      omega (arith, length-set x.chains (old_bucket x) (without q (chain x (old_bucket x))), new-range x w.laid)

  both-turned : bucket x q ≡ new_bucket x → (p : Pair) (d : Bool) → same p q ≡ d
      → TurnedTo cut_both p (cond d 0 (held_in x p))
  unfolding held_in cut
  both-turned at p false k =
      turned_same x.job (new_bucket x) (old_bucket x) (bucket x p) (unmoved_at x p) (moved_at x p) _ _ _
      (record { placed = w.placed p; number = refl }) (eq not) (eq marked)
    where
      eq : (f : Bool → Bool) (d : ℕ) → tally (having p f) (entries_at cut_both d) ≡ tally (having p f) (entries_at x d)
      eq f d =
          cut-same cut_old (new_bucket x) new-fits q f p k d ∙ cut-same x (old_bucket x) (old-range x w.laid) q f p k d
  both-turned at p true k =
      subst (λ (r : Pair). TurnedTo cut_both r 0) (sym (same-eq p q k))
      (remove-placed n o (bucket x q) (old-new x w.laid) (unmoved_at x q) (moved_at x q) _ _ x.job (w.placed q)
      (less not) (less marked)
      (rw at (omega (arith, cut-here cut_old n new-fits q not, cut-here cut_old n new-fits q marked)))
      (λ _ _. omega (
        arith,
        cut-here x o fits q not,
        cut-here x o fits q marked,
        cut-less cut_old n new-fits q not o,
        cut-less cut_old n new-fits q marked o,
      )))
    where
      n : ℕ
      n = new_bucket x

      o : ℕ
      o = old_bucket x

      fits : o < length x.chains
      fits = old-range x w.laid

      less : (f : Bool → Bool) (d : ℕ) → tally (having q f) (entries_at cut_both d) ≤ tally (having q f) (entries_at x d)
      less f d = omega (arith, cut-less x o fits q f d, cut-less cut_old n new-fits q f d)

  home-becomes : (x.job ≡ copying → bucket x q ≢ new_bucket x) → Becomes (without_pair q) x (cut q (bucket x q) x)
  home-becomes ne = becomes (without_pair q) x _ (λ p. home-turned ne p (same p q) refl)

  cuts-becomes : (j : Job) (b : Bool) → x.job ≡ j → eqb (bucket x q) (new_bucket x) ≡ b
      → Becomes (without_pair q) x (cut_held j x q b)
  cuts-becomes idle b e k = home-becomes (λ c. absurd (idle-copying (sym e ∙ c)))
  cuts-becomes clearing b e k = home-becomes (λ c. absurd (clearing-copying (sym e ∙ c)))
  cuts-becomes copying true e k =
      becomes (without_pair q) x _ (λ p. both-turned (eqb-eq (bucket x q) (new_bucket x) k) p (same p q) refl)
  cuts-becomes copying false e k = home-becomes (λ _ f. no_way (eqb_yes (bucket x q) (new_bucket x) f) k)

  cuts-laid : (j : Job) (b : Bool) → Laid (cut_held j x q b)
  cuts-laid idle b = cut-laid x w.laid (bucket x q) (home-range x w.laid q) q
  cuts-laid clearing b = cut-laid x w.laid (bucket x q) (home-range x w.laid q) q
  cuts-laid copying false = cut-laid x w.laid (bucket x q) (home-range x w.laid q) q
  cuts-laid copying true =
      cut-laid cut_old (cut-laid x w.laid (old_bucket x) (old-range x w.laid) q) (new_bucket x) new-fits q

pub remove-becomes : (x : Index) (q : Pair) (y : Index) → WF x → remove x q ≡ done y → Becomes (without_pair q) x y
remove-becomes x q y w h = view (rw h at (remove-view x q))
  where
    view : {z : Index} → Removing x q (done z) → Becomes (without_pair q) x z
    view (removed k l) = cuts-becomes x w q x.job (eqb (bucket x q) (new_bucket x)) refl refl

pub remove-wf : (x : Index) (q : Pair) (y : Index) → WF x → remove x q ≡ done y → WF y
remove-wf x q y w h = record { laid = view (rw h at (remove-view x q)); placed = (remove-becomes x q y w h).placed }
  where
    view : {z : Index} → Removing x q (done z) → Laid z
    view (removed k l) = cuts-laid x w q x.job (eqb (bucket x q) (new_bucket x))

pub remove-held : (x : Index) (q : Pair) (y : Index) → WF x → remove x q ≡ done y
    → (p : Pair) → held y p ≡ not (same p q) && held x p
remove-held x q y w h p =
    held-is y (remove-wf x q y w h) p (not (same p q) && held x p)
    ((remove-becomes x q y w h).number p ∙ go (same p q) (held x p) (held_in-held x w p))
  where
    go : (s a : Bool) → held_in x p ≡ b2n a → cond s 0 (held_in x p) ≡ b2n (not s && a)
    go true a k = refl
    go false a k = k
