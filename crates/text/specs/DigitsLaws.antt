-- Decimal digits, from the last to the first, and how many there are.
use Rattle.std.specs.Prelude.{◌≡◌, refl, Bool, true, false, List, [], ◌∷◌, ◌++◌, ℕ, zero, suc, ◌+◌, ◌-◌, ◌/◌, ◌%◌, ◌^◌, ◌≤◌, ◌<◌, ltb, length, drop, set}
use Rattle.std.proofs.Common.{sym, ap, ◌∙◌, append_assoc, pow-suc, sub-one, arith, lt-ltb, le-ltb, ltb-true, ltb-false, length-append, length-set, drop-cons, get_or-set_same, drop-set-lt}
use Rattle.text.specs.Digits.{digits_in, digits}

-- more fuel changes nothing
fuel : (k m n : ℕ) → n < k → n < m → digits_in k n ≡ digits_in m n
fuel zero m n h g = absurd (omega arith)
fuel (suc k) zero n h g = absurd (omega arith)
fuel (suc k) (suc m) n h g = go (ltb n 10) refl (fuel k m (n / 10))
  where
    go : (t : Bool) → ltb n 10 ≡ t → (n / 10 < k → n / 10 < m → digits_in k (n / 10) ≡ digits_in m (n / 10))
        → Path (List ℕ) (elim t [ true ↦ (48 + n) ∷ [] | false ↦ digits_in k (n / 10) ++ ((48 + n % 10) ∷ []) ])
        (elim t [ true ↦ (48 + n) ∷ [] | false ↦ digits_in m (n / 10) ++ ((48 + n % 10) ∷ []) ])
    go true e ih = refl
    go false e ih =
        let big : 10 ≤ n = ltb-false n 10 e in
        ap (λ (x : List ℕ). x ++ ((48 + n % 10) ∷ [])) (ih (omega arith) (omega arith))

pub digits-one : (n : ℕ) → n < 10 → digits n ≡ (48 + n) ∷ []
unfolding digits
digits-one n h = rw (digits_in, lt-ltb n 10 h)

pub digits_more : (n : ℕ) → 10 ≤ n → digits n ≡ digits (n / 10) ++ ((48 + n % 10) ∷ [])
unfolding digits
digits_more n h =
    rw (digits_in, le-ltb n 10 h)
    (ap (λ (x : List ℕ). x ++ ((48 + n % 10) ∷ [])) (fuel n (suc (n / 10)) (n / 10) (omega arith) (omega arith)))

pub digits-some : (n : ℕ) → 1 ≤ length (digits n)
unfolding digits
digits-some n = go (ltb n 10)
  where
    go : (t : Bool) → 1 ≤ length {A = ℕ} (elim t
        [ true ↦ (48 + n) ∷ [] | false ↦ digits_in n (n / 10) ++ ((48 + n % 10) ∷ []) ])
    go true = omega arith
    go false = simp length-append (omega arith)

-- a number below a power of ten has as few digits
pub digits-few : (k n : ℕ) → n < 10 ^ suc k → length (digits n) ≤ suc k
digits-few zero n h = rw (digits-one n (omega arith)) (omega arith)
digits-few (suc k) n h = go (ltb n 10) refl (digits-few k (n / 10))
  where
    go : (t : Bool) → ltb n 10 ≡ t → (n / 10 < 10 ^ suc k → length (digits (n / 10)) ≤ suc k)
        → length (digits n) ≤ suc (suc k)
    go true e ih = rw (digits-one n (ltb-true n 10 e)) (omega arith)
    go false e ih =
        rw (digits_more n (ltb-false n 10 e))
        (simp length-append (omega (arith, ih (omega (arith, pow-suc 10 (suc k))))))

-- ---- digits written from the last to the first

-- one more byte before those that are written
before : (s : List ℕ) (at v : ℕ) → 1 ≤ at → at ≤ length s → drop (at - 1) (set s (at - 1) v) ≡ v ∷ drop at s
before s zero v h g = absurd (omega arith)
before s (suc j) v h g =
    let l : j < length (set s j v) = rw length-set (omega arith) in
    rw (
      sub-one (suc j),
      drop-cons (set s j v) j 0 l,
      get_or-set_same s j v 0 (omega arith),
      drop-set-lt (suc j) s j v
          (omega arith),
    )

module _ (n rest at : ℕ) (space : List ℕ) (big : 1 ≤ at) (fits : at ≤ length space)
    (e : digits n ≡ digits rest ++ drop at space) where
  pub spell_last : rest / 10 ≡ 0 → drop (at - 1) (set space (at - 1) (48 + rest % 10)) ≡ digits n
  spell_last h =
      let small : rest < 10 = omega arith in
      before space at (48 + rest % 10) big fits
      ∙ ap (λ (d : ℕ). (48 + d) ∷ drop at space) (omega arith)
      ∙ ap (λ (x : List ℕ). x ++ drop at space) (sym (digits-one rest small)) ∙ sym e

  pub spell-more : (rest / 10 ≡ 0 → ⊥)
      → digits n ≡ digits (rest / 10) ++ drop (at - 1) (set space (at - 1) (48 + rest % 10))
  spell-more h =
      let large : 10 ≤ rest = omega arith in
      e ∙ ap (λ (x : List ℕ). x ++ drop at space) (digits_more rest large)
      ∙ append_assoc (digits (rest / 10)) ((48 + rest % 10) ∷ []) (drop at space)
      ∙ ap (λ (x : List ℕ). digits (rest / 10) ++ x) (sym (before space at (48 + rest % 10) big fits))

  pub spell-fewer : (rest / 10 ≡ 0 → ⊥) → length (digits rest) ≤ at → length (digits (rest / 10)) ≤ at - 1
  spell-fewer h f =
      let large : 10 ≤ rest = omega arith in
      omega (arith, simp length-append at (ap length (digits_more rest large)))
