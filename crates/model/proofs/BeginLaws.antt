-- What a begin leaves to do: two steps for each held pair that moves to the new bucket, and two.
use Rattle.std.specs.Prelude.{◌≡◌, refl, Bool, true, false, cond, ◌&&◌, List, [], ◌∷◌, ◌++◌, map, ℕ, suc, ◌+◌, ◌*◌, eqb}
use Rattle.std.proofs.Common.{sym, ◌∙◌, subst}
use Rattle.std.proofs.Math.Path.{ap}
use Rattle.std.proofs.Math.Bool.{not}
use Rattle.std.proofs.Math.Option.{some}
use native.Mathlib.Omega.{arith}
use Rattle.std.proofs.lemmas.List.{length-map}
use Rattle.std.proofs.Math.ListN.{get_or-eq_default}
use Rattle.lists.specs.Lists.{b2n, any, tally, keep}
use Rattle.lists.specs.ListsLaws.{eqb-eq, tally-cong, tally-map, length-keep}
use Rattle.address.specs.Address.{bucket_of}
use Rattle.page.specs.declared.Pair.{Pair}
use Rattle.page.specs.Pair.{same, is, ascending, pair_of}
use Rattle.page.specs.SublistLaws.{sublist-keep}
use Rattle.page.specs.AscendingLaws.{ascending-sublist}
use Rattle.model.specs.Index.{idle, copying, Index, entries_in, no_chain, entries_at, bucket, new_bucket, old_bucket}
use Rattle.model.specs.Index.{top_bit}
use Rattle.model.specs.Held.{self, held}
use Rattle.model.specs.Steps.{next, widen, moves, step}
use Rattle.model.specs.Book.{movers}
use Rattle.model.specs.WellFormed.{unmoved_at, moved_at, WF}
use Rattle.model.specs.HeldIn.{held_in}
use Rattle.model.specs.PlacedLaws.{held_new}
use Rattle.model.proofs.HeldLaws.{is-parts, held_in-held}
use Rattle.model.proofs.LaidLaws.{chain-wider}
use Rattle.model.proofs.ViewLaws.{Beginning, same_point, new_point, Stepping, began, copied, copied_all, cleared}
use Rattle.model.proofs.ViewLaws.{cleared_all, step-view}
use Rattle.model.proofs.StepLaws.{widen-becomes}
use Rattle.model.specs.SortedLaws.{tally-keep-pair, any-keep-pair, length-is}
use Rattle.model.specs.StepsLeft.{old_entries, steps_left}
use Rattle.model.specs.Steps.{copies_left}
use Rattle.model.proofs.StepsLeftLaws.{steps_left-at}

-- the pairs that move, of any ascending list of the held pairs; and none is copied yet
module _ (x : Index) (w : WF x) (sp : List ℕ) (j : x.job ≡ idle) where
  abbrev widened : Index
  widened = widen x sp

  new-empty : entries_at widened (new_bucket widened) ≡ []
  new-empty =
      ap entries_in (chain-wider x.chains (suc x.max_bucket)
      ∙ get_or-eq_default x.chains no_chain (omega (arith, w.laid.whole)))

  none-copied : copies_left widened ≡ old_entries widened
  none-copied = tally-cong _ _ (entries_at widened (old_bucket widened)) (λ e. rw new-empty (and-true (moves widened e)))
    where
      and-true : (b : Bool) → b && true ≡ b
      and-true true = refl
      and-true false = refl

  old-number : (p : Pair) → bucket widened p ≡ new_bucket widened
      → tally (is p) (entries_at widened (old_bucket widened)) ≡ b2n (held x p)
  unfolding held_in
  old-number p e =
      omega (
        arith,
        is-parts p (entries_at widened (old_bucket widened)),
        held_new (new_bucket widened) (old_bucket widened) (bucket widened p)
            (unmoved_at widened p) (moved_at widened p) e,
        ap (tally (λ d. is p d && not d.moved)) new-empty,
        (widen-becomes x sp w j).number p,
        held_in-held x w p,
      )

  old-movers : (ps : List Pair) → ascending self ps ≡ true → ((p : Pair) → any (same p) ps ≡ held x p)
      → old_entries widened ≡ movers (suc x.max_bucket) ps
  old-movers ps a h =
      sym (length-keep (moves y) (entries_at y o))
      ∙ sym (length-map (keep (moves y) (entries_at y o)) pair_of)
      ∙ length-is (map pair_of (keep (moves y) (entries_at y o))) (keep g ps)
      (ascending-sublist self (sublist-keep g ps) a) one
    where
      y : Index
      y = widen x sp

      n : ℕ
      n = new_bucket y

      o : ℕ
      o = old_bucket y

      g : Pair → Bool
      g p = eqb (bucket_of n p.hash) n

      at : (p : Pair) (b : Bool) → g p ≡ b → cond b (tally (is p) (entries_at y o)) 0 ≡ b2n (b && held x p)
      at p true e = old-number p (eqb-eq (bucket y p) n e)
      at p false e = refl

      one : (p : Pair) → tally (same p) (map pair_of (keep (moves y) (entries_at y o))) ≡ b2n (any (same p) (keep g ps))
      one p =
          tally-map pair_of (same p) (keep (moves y) (entries_at y o))
          ∙ tally-keep-pair pair_of g p (entries_at y o)
          ∙ at p (g p) refl
          ∙ ap b2n (ap (λ (b : Bool). g p && b) (sym (h p)) ∙ sym (any-keep-pair g p ps))

-- ---- the laws

-- a begin widens the index
pub begin-widens : (x y : Index) → x.job ≡ idle → step x ≡ next y → (sp : List ℕ) × (y ≡ widen x sp)
begin-widens x y j h = go (rw h at (step-view x))
  where
    widens : {z : Index} → Beginning x (some z) → (sp : List ℕ) × (z ≡ widen x sp)
    widens (same_point k) = (x.spares, refl)
    widens (new_point k l) = (x.spares ++ top_bit x ∷ [], refl)

    go : {z : Index} → Stepping x (next z) → (sp : List ℕ) × (z ≡ widen x sp)
    go (began i k v) = widens v
    go (copied i e k v) = let z : ◌≡◌ {A = ℕ} 0 1 = cc in absurd (omega arith)
    go (copied_all i k) = let z : ◌≡◌ {A = ℕ} 0 1 = cc in absurd (omega arith)
    go (cleared i e k) = let z : ◌≡◌ {A = ℕ} 0 1 = cc in absurd (omega arith)
    go (cleared_all i k) = let z : ◌≡◌ {A = ℕ} 0 1 = cc in absurd (omega arith)

-- it leaves two steps for each of the old bucket's entries that map to the new one, and two
pub begin-steps_left : (x y : Index) → WF x → x.job ≡ idle → step x ≡ next y → steps_left y ≡ 2 * old_entries y + 2
begin-steps_left x y w j h =
    let b = begin-widens x y j h in
    subst (λ (z : Index). steps_left z ≡ 2 * old_entries z + 2) (sym b.1)
    (omega (arith, steps_left-at (widen x b.0) copying refl, none-copied x w b.0 j))

-- these are the pairs that move, of any ascending list of the held pairs
pub begin-movers : (x y : Index) → WF x → x.job ≡ idle → step x ≡ next y
    → (ps : List Pair) → ascending self ps ≡ true → ((p : Pair) → any (same p) ps ≡ held x p)
    → old_entries y ≡ movers (suc x.max_bucket) ps
begin-movers x y w j h ps a e =
    let b = begin-widens x y j h in
    subst (λ (z : Index). old_entries z ≡ movers (suc x.max_bucket) ps) (sym b.1) (old-movers x w b.0 j ps a e)
