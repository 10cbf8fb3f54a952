-- A search in a list, element by element, and what it finds.
use Rattle.std.specs.Prelude.{◌≡◌, refl, Bool, true, false, ◌||◌, List, [], ◌∷◌, ◌++◌, ℕ, zero, suc, ◌+◌, ◌≤◌, ◌<◌, length, get_or, drop}
use Rattle.std.proofs.Common.{sym, ap, subst, ◌∙◌, add-one, arith, drop_of_length-le, drop-cons}
use Rattle.std.proofs.Math.Option.{Option, none, some}
use Rattle.std.proofs.Math.Decide.{ℕ_discrete}
use Rattle.lists.specs.Lists.{any, find, bind, Each, up_from}
use Rattle.lists.specs.TestLaws.{each_right}
use Rattle.frame.specs.ListsLaws.{find-hit, find-pass}

abbrev pub is_some : {A : Type 0} → Option A → Bool
is_some none = false
is_some (some x) = true

module _ {A : Type 0} (t : A → Bool) where
  -- ---- as a loop over the indices goes: what is left from index i on

  module _ (xs : List A) (i : ℕ) (d : A) (more : i < length xs) where
    pub find-here : t (get_or xs i d) ≡ true → find t (drop i xs) ≡ some (get_or xs i d)
    find-here h = ap (find t) (drop-cons xs i d more) ∙ find-hit t (get_or xs i d) (drop (suc i) xs) h

    pub find-later : t (get_or xs i d) ≡ false → find t (drop i xs) ≡ find t (drop (i + 1) xs)
    find-later h =
        ap (find t) (drop-cons xs i d more)
        ∙ find-pass t (get_or xs i d) (drop (suc i) xs) h
        ∙ ap (λ (n : ℕ). find t (drop n xs)) (sym (add-one i))

  pub find-end : (xs : List A) (i : ℕ) → length xs ≤ i → find t (drop i xs) ≡ none
  find-end xs i h = ap (find t) (drop_of_length-le xs h)

  -- ---- what is found

  -- y is the first element that passes the test
  pub record First (xs : List A) (y : A) : Type 0 where
    pub before : List A
    pub after : List A
    pub whole : xs ≡ before ++ y ∷ after
    pub passed : Each (λ x. t x ≡ false) before
    pub here : t y ≡ true

  pub find_first : (xs : List A) (y : A) → find t xs ≡ some y → First xs y
  find_first [] y h = let z : ◌≡◌ {A = ℕ} 0 1 = cc in absurd (omega arith)
  find_first (x ∷ xs) y h = go (t x) refl h (find_first xs y)
    where
      go : (b : Bool) → t x ≡ b → Path (Option A) (elim b [ true ↦ some x | false ↦ find t xs ]) (some y)
          → (find t xs ≡ some y → First xs y) → First (x ∷ xs) y
      go true e h ih =
          let q : x ≡ y = cc in
          record { before = []; after = xs; whole = ap (λ (z : A). z ∷ xs) q; passed = tt; here = rw (← q) e }
      go false e h ih =
          let f = ih h in
          record {
            before = x ∷ f.before;
            after = f.after;
            whole = ap (λ (zs : List A). x ∷ zs) f.whole;
            passed = (e, f.passed);
            here = f.here;
          }

  -- what holds of every element holds of it
  pub first-each : (P : A → Type 0) (xs : List A) (y : A) → First xs y → Each P xs → P y
  first-each P xs y f h = (each_right P f.before (y ∷ f.after) (subst (Each P) f.whole h)).0

  pub find-any : (xs : List A) → is_some (find t xs) ≡ any t xs
  find-any [] = refl
  find-any (x ∷ xs) = go (t x) (find-any xs)
    where
      go : (b : Bool) → is_some (find t xs) ≡ any t xs
          → is_some {A = A} (elim b [ true ↦ some x | false ↦ find t xs ]) ≡ b || any t xs
      go true ih = refl
      go false ih = ih

  -- ---- any

  pub any_append : (xs ys : List A) → any t (xs ++ ys) ≡ any t xs || any t ys
  any_append [] ys = refl
  any_append (x ∷ xs) ys = go (t x) (any_append xs ys)
    where
      go : (b : Bool) → any t (xs ++ ys) ≡ any t xs || any t ys → b || any t (xs ++ ys) ≡ (b || any t xs) || any t ys
      go true ih = refl
      go false ih = ih

  pub any-bind : {B : Type 0} (f : B → List A) (xs : List B) → any t (bind xs f) ≡ any (λ x. any t (f x)) xs
  any-bind f [] = refl
  any-bind f (x ∷ xs) = any_append (f x) (bind xs f) ∙ ap (λ (b : Bool). any t (f x) || b) (any-bind f xs)

-- ---- runs of numbers

module _ (t : ℕ → Bool) where
  -- no number before the one that is found passes
  pub run-lower : (i n y : ℕ) → find t (up_from i n) ≡ some y → (k : ℕ) → i ≤ k → k < y → t k ≡ false
  run-lower i zero y h k l g = let z : ◌≡◌ {A = ℕ} 0 1 = cc in absurd (omega arith)
  run-lower i (suc n) y h k l g = go (t i) refl h (ℕ_discrete i k) (λ q m. run-lower (suc i) n y q k m g)
    where
      go : (b : Bool) → t i ≡ b
          → Path (Option ℕ) (elim b [ true ↦ some i | false ↦ find t (up_from (suc i) n) ]) (some y)
          → Dec (i ≡ k) → (find t (up_from (suc i) n) ≡ some y → suc i ≤ k → t k ≡ false) → t k ≡ false
      go true e h d ih = let q : i ≡ y = cc in absurd (omega arith)
      go false e h (yes q) ih = subst (λ (j : ℕ). t j ≡ false) q e
      go false e h (no q) ih = ih h (omega arith)

  pub run_none : (i n : ℕ) → find t (up_from i n) ≡ none → (k : ℕ) → i ≤ k → k < i + n → t k ≡ false
  run_none i zero h k l g = absurd (omega arith)
  run_none i (suc n) h k l g = go (t i) refl h (ℕ_discrete i k) (λ q m. run_none (suc i) n q k m (omega arith))
    where
      go : (b : Bool) → t i ≡ b → Path (Option ℕ) (elim b [ true ↦ some i | false ↦ find t (up_from (suc i) n) ]) none
          → Dec (i ≡ k) → (find t (up_from (suc i) n) ≡ none → suc i ≤ k → t k ≡ false) → t k ≡ false
      go true e h d ih = let z : ◌≡◌ {A = ℕ} 0 1 = cc in absurd (omega arith)
      go false e h (yes q) ih = subst (λ (j : ℕ). t j ≡ false) q e
      go false e h (no q) ih = ih h (omega arith)
