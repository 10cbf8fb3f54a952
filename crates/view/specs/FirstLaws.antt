-- The place of the first element that passes a test.
use Rattle.std.specs.Prelude.{◌≡◌, refl, Bool, true, false, cond, ◌||◌, List, [], ◌∷◌, map, ℕ, zero, suc, ◌≤◌, ◌<◌, length, get_or, drop}
use Rattle.std.proofs.Common.{ap, arith, drop-cons}
use Rattle.std.proofs.Math.Option.{Option, none, some}
use Rattle.lists.specs.Lists.{any, find}
use Rattle.frame.specs.Frame.{first_place}

-- a place of the list whatever the default
pub get_d_default : {A : Type 0} (xs : List A) (i : ℕ) (d e : A) → i < length xs → get_or xs i d ≡ get_or xs i e
get_d_default xs i d e h = let p = drop-cons xs i d h in let q = drop-cons xs i e h in cc

module _ {A : Type 0} (t : A → Bool) where
  pub find-place : (xs : List A) (d : A) → find t xs ≡ cond (any t xs) (some (get_or xs (first_place t xs) d)) none
  find-place [] d = refl
  find-place (x ∷ xs) d = go (t x) (find-place xs d)
    where
      go : (b : Bool) → find t xs ≡ cond (any t xs) (some (get_or xs (first_place t xs) d)) none
          → Path (Option A) (elim b [ true ↦ some x | false ↦ find t xs ])
          (cond (b || any t xs) (some (get_or (x ∷ xs) (cond b 0 (suc (first_place t xs))) d)) none)
      go true ih = refl
      go false ih = ih

  pub place_inside : (xs : List A) → any t xs ≡ true → first_place t xs < length xs
  place_inside [] h = let z : ◌≡◌ {A = ℕ} 0 1 = cc in absurd (omega arith)
  place_inside (x ∷ xs) h = go (t x) h (place_inside xs)
    where
      go : (b : Bool) → b || any t xs ≡ true → (any t xs ≡ true → first_place t xs < length xs)
          → cond b 0 (suc (first_place t xs)) < suc (length xs)
      go true h ih = omega arith
      go false h ih = omega (arith, ih h)

  -- without elements before the first that passes
  pub find-drop : (xs : List A) (i : ℕ) → i ≤ first_place t xs → find t (drop i xs) ≡ find t xs
  find-drop xs zero h = refl
  find-drop [] (suc i) h = absurd (omega arith)
  find-drop (x ∷ xs) (suc i) h = go (t x) h (find-drop xs i)
    where
      go : (b : Bool) → suc i ≤ cond b 0 (suc (first_place t xs))
          → (i ≤ first_place t xs → find t (drop i xs) ≡ find t xs)
          → Path (Option A) (find t (drop i xs)) (elim b [ true ↦ some x | false ↦ find t xs ])
      go true h ih = absurd (omega arith)
      go false h ih = ih (omega arith)

pub place_map : {A B : Type 0} (f : A → B) (t : B → Bool) (xs : List A) → first_place t (map f xs) ≡ first_place (λ x. t (f x)) xs
place_map f t [] = refl
place_map f t (x ∷ xs) = ap (λ (n : ℕ). cond (t (f x)) 0 (suc n)) (place_map f t xs)
