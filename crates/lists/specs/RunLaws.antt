-- Tests over runs of numbers.
use Rattle.std.specs.Prelude.{◌≡◌, refl, ◌≢◌, Bool, true, false, map, ℕ, zero, suc, ◌+◌, ◌≤◌, ◌<◌, length, get_or}
use Rattle.std.proofs.Common.{sym, ap, ◌∙◌, subst, arith}
use Rattle.std.proofs.Math.Option.{Option, none, some}
use Rattle.std.proofs.Math.Decide.{ℕ_discrete}
use Rattle.lists.specs.Lists.{all, find, up_from}
use Rattle.lists.specs.ListsLaws.{and_left, and_right}

pub length_run : (i n : ℕ) → length (up_from i n) ≡ n
length_run i zero = refl
length_run i (suc n) = ap suc (length_run (suc i) n)

pub get_or-run : {A : Type 0} (f : ℕ → A) (d : A) (i n k : ℕ) → k < n → get_or (map f (up_from i n)) k d ≡ f (i + k)
get_or-run f d i zero k h = absurd (omega arith)
get_or-run f d i (suc n) zero h = let e : i ≡ i + 0 = omega arith in ap f e
get_or-run f d i (suc n) (suc k) h =
    let e : suc i + k ≡ i + suc k = omega arith in
    get_or-run f d (suc i) n k (omega arith) ∙ ap f e

module _ (t : ℕ → Bool) where
  pub all-get : (i n : ℕ) → all t (up_from i n) ≡ true → (k : ℕ) → i ≤ k → k < i + n → t k ≡ true
  all-get i zero h k l g = absurd (omega arith)
  all-get i (suc n) h k l g = go (ℕ_discrete i k) (all-get (suc i) n (and_right (t i) _ h) k)
    where
      go : Dec (i ≡ k) → (suc i ≤ k → k < suc i + n → t k ≡ true) → t k ≡ true
      go (yes e) ih = subst (λ (j : ℕ). t j ≡ true) e (and_left (t i) _ h)
      go (no e) ih = ih (omega arith) (omega arith)

  pub all-put : (i n : ℕ) → ((k : ℕ) → i ≤ k → k < i + n → t k ≡ true) → all t (up_from i n) ≡ true
  all-put i zero h = refl
  all-put i (suc n) h =
      rw (h i (omega arith) (omega arith)) (all-put (suc i) n (λ k l g. h k (omega arith) (omega arith)))

  pub record FoundIn (i n y : ℕ) : Type 0 where
    pub passes : t y ≡ true
    pub from : i ≤ y
    pub upto : y < i + n

  pub find-run : (i n y : ℕ) → find t (up_from i n) ≡ some y → FoundIn i n y
  find-run i zero y h = let z : ◌≡◌ {A = ℕ} 0 1 = cc in absurd (omega arith)
  find-run i (suc n) y h = go (t i) refl h (find-run (suc i) n y)
    where
      wide : FoundIn (suc i) n y → FoundIn i (suc n) y
      wide f = record { passes = f.passes; from = omega (arith, f.from); upto = omega (arith, f.upto) }

      here : t i ≡ true → i ≡ y → FoundIn i (suc n) y
      here e q = record { passes = subst (λ (j : ℕ). t j ≡ true) q e; from = omega arith; upto = omega arith }

      go : (b : Bool) → t i ≡ b → Path (Option ℕ) (elim b [ true ↦ some i | false ↦ find t (up_from (suc i) n) ]) (some y)
          → (find t (up_from (suc i) n) ≡ some y → FoundIn (suc i) n y) → FoundIn i (suc n) y
      go true e h ih = here e (cc)
      go false e h ih = wide (ih h)

  -- the one number that passes is found
  pub find-only : (i n y : ℕ) → t y ≡ true → i ≤ y → y < i + n
      → ((z : ℕ) → i ≤ z → z < i + n → z ≢ y → t z ≡ false) → find t (up_from i n) ≡ some y
  find-only i zero y h l g o = absurd (omega arith)
  find-only i (suc n) y h l g o = go (ℕ_discrete i y) (find-only (suc i) n y h)
    where
      go : Dec (i ≡ y)
          → (suc i ≤ y → y < suc i + n → ((z : ℕ) → suc i ≤ z → z < suc i + n → z ≢ y → t z ≡ false)
          → find t (up_from (suc i) n) ≡ some y)
          → Path (Option ℕ) (elim (t i) [ true ↦ some i | false ↦ find t (up_from (suc i) n) ]) (some y)
      go (yes e) ih = rw (subst (λ (j : ℕ). t j ≡ true) (sym e) h) (ap some e)
      go (no e) ih =
          rw (o i (omega arith) (omega arith) e)
          (ih (omega arith) (omega arith) (λ z a b c. o z (omega arith) (omega arith) c))

  pub find-nowhere : (i n : ℕ) → ((z : ℕ) → i ≤ z → z < i + n → t z ≡ false) → find t (up_from i n) ≡ none
  find-nowhere i zero o = refl
  find-nowhere i (suc n) o =
      rw (o i (omega arith) (omega arith)) (find-nowhere (suc i) n (λ z a b. o z (omega arith) (omega arith)))

-- two tests that agree on a run find the same, if nothing past it passes
pub find-same : (t u : ℕ → Bool) (i n m : ℕ) → n ≤ m → ((k : ℕ) → i ≤ k → k < i + n → t k ≡ u k)
    → ((k : ℕ) → i + n ≤ k → k < i + m → t k ≡ false) → find t (up_from i m) ≡ find u (up_from i n)
find-same t u i zero m h same rest = find-nowhere t i m (λ k l g. rest k (omega arith) g)
find-same t u i (suc n) zero h same rest = absurd (omega arith)
find-same t u i (suc n) (suc m) h same rest =
    both (same i (omega arith) (omega arith))
    (find-same t u (suc i) n m (omega arith) (λ k l g. same k (omega arith) (omega arith))
    (λ k l g. rest k (omega arith) (omega arith)))
  where
    both : t i ≡ u i → find t (up_from (suc i) m) ≡ find u (up_from (suc i) n)
        → find t (up_from i (suc m)) ≡ find u (up_from i (suc n))
    both p q = λ j. elim (p j) [ true ↦ some i | false ↦ q j ]
