-- What the list that leads tells of all lists, and what the taking of its first entry does to them.
use Rattle.std.specs.Prelude.{◌≡◌, refl, ◌≢◌, Bool, true, false, List, [], ◌∷◌, ◌++◌, ℕ, zero, suc, ◌+◌, ◌≤◌, ◌<◌}
use Rattle.std.proofs.Common.{sym, ap, ap₂, ◌∙◌, subst, arith}
use Rattle.std.proofs.Math.Decide.{ℕ_discrete}
use Rattle.lists.specs.Lists.{b2n, tally, Each}
use Rattle.lists.specs.ListsLaws.{tally-append, each_append, not_yes}
use Rattle.page.specs.declared.Pair.{Pair}
use Rattle.page.specs.declared.Entry.{Entry}
use Rattle.page.specs.Pair.{before, pair_of, ascending}
use Rattle.page.specs.PairLaws.{no_way, before-trans, before-conn}
use Rattle.page.specs.SublistLaws.{each_map}
use Rattle.page.specs.AscendingLaws.{ascending-head}
use Rattle.merge.specs.Merge.{leads, joined, Best, Taken}

-- ---- not before

-- p comes before q, and r does not: p comes before r
pub before-then : (p q r : Pair) → before p q ≡ true → before r q ≡ false → before p r ≡ true
before-then p q r h k = go (before q r) refl
  where
    go : (b : Bool) → before q r ≡ b → before p r ≡ true
    go true e = before-trans p q r h e
    go false e = rw (← before-conn q r e k) h

-- ---- lists joined by number

module _ (f : ℕ → List Entry) where
  pub joined-each : (P : Entry → Type 0) (i n : ℕ) → ((k : ℕ) → i ≤ k → k < i + n → Each P (f k)) → Each P
      (joined f i n)
  joined-each P i zero h = tt
  joined-each P i (suc n) h =
      each_append P (f i) (joined f (suc i) n) (h i (omega arith) (omega arith))
      (joined-each P (suc i) n (λ k l u. h k (omega arith) (omega arith)))

  pub joined-none : (i n : ℕ) → ((k : ℕ) → i ≤ k → k < i + n → f k ≡ []) → joined f i n ≡ []
  joined-none i zero h = refl
  joined-none i (suc n) h =
      ap₂ (λ (x y : List Entry). x ++ y) (h i (omega arith) (omega arith))
      (joined-none (suc i) n (λ k l u. h k (omega arith) (omega arith)))

  pub joined-part : (t : Entry → Bool) (i n k : ℕ) → i ≤ k → k < i + n → tally t (f k) ≤ tally t (joined f i n)
  joined-part t i zero k l u = absurd (omega arith)
  joined-part t i (suc n) k l u = go (ℕ_discrete i k) (joined-part t (suc i) n k)
    where
      go : Dec (i ≡ k) → (suc i ≤ k → k < suc i + n → tally t (f k) ≤ tally t (joined f (suc i) n))
          → tally t (f k) ≤ tally t (joined f i (suc n))
      go (yes q) ih = omega (arith, tally-append t (f i) (joined f (suc i) n), ap (λ (x : ℕ). tally t (f x)) q)
      go (no q) ih = omega (arith, tally-append t (f i) (joined f (suc i) n), ih (omega arith) (omega arith))

  module _ (g : ℕ → List Entry) where
    pub joined_same : (i n : ℕ) → ((k : ℕ) → i ≤ k → k < i + n → f k ≡ g k) → joined f i n ≡ joined g i n
    joined_same i zero h = refl
    joined_same i (suc n) h =
        ap₂ (λ (x y : List Entry). x ++ y) (h i (omega arith) (omega arith))
        (joined_same (suc i) n (λ k l u. h k (omega arith) (omega arith)))

    module _ {j : ℕ} {e : Entry} (taken : Taken f g j e) where
      -- the lists with list j have one entry more
      pub taken-tally : (t : Entry → Bool) (i n : ℕ) → i ≤ j → j < i + n
          → tally t (joined f i n) ≡ b2n (t e) + tally t (joined g i n)
      taken-tally t i zero l u = absurd (omega arith)
      taken-tally t i (suc n) l u = go (ℕ_discrete i j) (taken-tally t (suc i) n)
        where
          split-f : tally t (joined f i (suc n)) ≡ tally t (f i) + tally t (joined f (suc i) n)
          split-f = tally-append t (f i) (joined f (suc i) n)

          split-g : tally t (joined g i (suc n)) ≡ tally t (g i) + tally t (joined g (suc i) n)
          split-g = tally-append t (g i) (joined g (suc i) n)

          go : Dec (i ≡ j)
              → (suc i ≤ j → j < suc i + n → tally t (joined f (suc i) n) ≡ b2n (t e) + tally t (joined g (suc i) n))
              → tally t (joined f i (suc n)) ≡ b2n (t e) + tally t (joined g i (suc n))
          go (yes q) ih =
              let rest = joined_same (suc i) n (λ k a b. taken.other k (λ r. omega arith)) in
              let first : f i ≡ e ∷ g i = ap f q ∙ taken.here ∙ ap (λ (x : ℕ). e ∷ g x) (sym q) in
              omega (arith, split-f, split-g, ap (tally t) rest, ap (tally t) first)
          go (no q) ih =
              omega (arith, split-f, split-g, ih (omega arith) (omega arith), ap (tally t) (taken.other i q))

      -- the lists without list j stay
      pub taken-apart : (i n : ℕ) → ((k : ℕ) → i ≤ k → k < i + n → k ≢ j) → joined f i n ≡ joined g i n
      taken-apart i n apart = joined_same i n (λ k l u. taken.other k (apart k l u))

      -- what holds of the entries of f holds of those of g
      pub taken-each : (P : Entry → Type 0) (i : ℕ) → Each P (f i) → Each P (g i)
      taken-each P i h = go (ℕ_discrete i j)
        where
          go : Dec (i ≡ j) → Each P (g i)
          go (yes q) =
              let r : Each P (e ∷ g i) = subst (Each P) (ap f q ∙ taken.here ∙ ap (λ (x : ℕ). e ∷ g x) (sym q)) h in
              r.1
          go (no q) = subst (Each P) (taken.other i q) h

-- ---- the list that leads

leads_empty : (ys : List Entry) → leads [] ys ≡ true → ys ≡ []
leads_empty [] h = refl
leads_empty (y ∷ ys) h = no_way refl (sym h)

-- no entry of a list that is led stands before the first entry of the list that leads
leads-each : (x : Entry) (xs ys : List Entry) → leads (x ∷ xs) ys ≡ true → ascending pair_of ys ≡ true
    → Each (λ y. before y.pair x.pair ≡ false) ys
leads-each x xs [] h a = tt
leads-each x xs (y ∷ ys) h a =
    let first : before y.pair x.pair ≡ false = not_yes _ h in (
      first,
      each_map (λ z. before y.pair z.pair ≡ true) (λ z. before z.pair x.pair ≡ false)
          (later first) ys (ascending-head pair_of y ys a),
    )
  where
    later : before y.pair x.pair ≡ false → (z : Entry) → before y.pair z.pair ≡ true
        → before z.pair x.pair ≡ false
    later first z k = go (before z.pair x.pair) refl
      where
        go : (b : Bool) → before z.pair x.pair ≡ b → b ≡ false
        go false q = refl
        go true q = no_way (before-trans y.pair z.pair x.pair k q) first

module _ (f : ℕ → List Entry) (n : ℕ) {j : ℕ} (best : Best f n j) where
  -- where nothing is left of it, nothing is left at all
  pub best_none : f j ≡ [] → (i : ℕ) → i < n → f i ≡ []
  best_none z i h = leads_empty (f i) (ap (λ (xs : List Entry). leads xs (f i)) (sym z) ∙ best.first i h)

  pub best-end : f j ≡ [] → joined f 0 n ≡ []
  best-end z = joined-none f 0 n (λ i l u. best_none z i (omega arith))

  -- else no entry that is left stands before its first
  pub best-least : (x : Entry) (xs : List Entry) → f j ≡ x ∷ xs → (i : ℕ) → i < n → ascending pair_of (f i) ≡ true
      → Each (λ y. before y.pair x.pair ≡ false) (f i)
  best-least x xs z i h a =
      leads-each x xs (f i) (ap (λ (ys : List Entry). leads ys (f i)) (sym z) ∙ best.first i h) a
