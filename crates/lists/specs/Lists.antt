-- List functions with Boolean tests, and runs of numbers.
use Rattle.std.specs.Prelude.{Bool, true, false, cond, ◌&&◌, ◌||◌, List, [], ◌∷◌, ◌++◌, ℕ, zero, suc, ◌+◌}
use Rattle.std.proofs.Math.Option.{Option, none, some}

-- 1 for true, 0 for false
abbrev pub b2n : Bool → ℕ
b2n true = 1
b2n false = 0

module _ {A : Type 0} where
  abbrev pub any : (A → Bool) → List A → Bool
  any t [] = false
  any t (x ∷ xs) = t x || any t xs

  abbrev pub all : (A → Bool) → List A → Bool
  all t [] = true
  all t (x ∷ xs) = t x && all t xs

  -- how many elements pass the test
  abbrev pub tally : (A → Bool) → List A → ℕ
  tally t [] = 0
  tally t (x ∷ xs) = b2n (t x) + tally t xs

  -- the elements that pass the test
  abbrev pub keep : (A → Bool) → List A → List A
  keep t [] = []
  keep t (x ∷ xs) = cond (t x) (x ∷ keep t xs) (keep t xs)

  -- the first element that passes the test
  abbrev pub find : (A → Bool) → List A → Option A
  find t [] = none
  find t (x ∷ xs) = elim (t x) [ true ↦ some x | false ↦ find t xs ]

  -- the lists that f makes of the elements, one after the other
  abbrev pub bind : {B : Type 0} → List A → (A → List B) → List B
  bind [] f = []
  bind (x ∷ xs) f = f x ++ bind xs f

  -- P holds of every element
  abbrev pub Each : (A → Type 0) → List A → Type 0
  Each P [] = Unit {0}
  Each P (x ∷ xs) = P x × Each P xs

-- n numbers from k on: k, k + 1, ..
abbrev pub up_from : ℕ → ℕ → List ℕ
up_from k zero = []
up_from k (suc n) = k ∷ up_from (suc k) n
