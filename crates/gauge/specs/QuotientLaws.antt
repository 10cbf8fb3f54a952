-- A division of two whole numbers that binary64 holds is their quotient, rounded once; the order of quotients.
use Rattle.std.specs.Prelude.{◌≡◌, refl, Bool, true, false, cond, ℕ, ◌*◌, ◌^◌, ◌≤◌, ◌<◌, eqb, pos, Float}
use Rattle.std.proofs.Common.{sym, ap, ap₂, ◌∙◌, subst, mul-one, mul_comm, mul_assoc, mul_left_comm, mul-pos, arith, ne_eqb}
use Rattle.std.specs.Float.{nan, inf, fin, Format, binary64}
use Rattle.std.specs.Float.Ieee.{up, down, unlike, round, div, of_int, le}
use Rattle.std.specs.Float.Ieee.Bits.{is_true}
use Rattle.std.specs.Float.Ieee.Fits.{down_pos}
use Rattle.std.specs.Float.Ieee.Exact.{HasValue}
use Rattle.std.specs.Float.Ieee.Scale.{round_same}
use Rattle.std.specs.Float.Ieee.Back.{round_whole}
use Rattle.std.specs.Float.Ieee.Order.{round_mono}
use Rattle.gauge.specs.Gauge.{quotient, zero64}

-- ---- division

-- of two values that are the whole numbers a and b, with b above 0
div-at : (f : Format) (x y : Float) (a b : ℕ) → 0 < b → HasValue x false a 1 → HasValue y false b 1
    → div f x y ≡ round f false a b
unfolding div
div-at f nan y a b p v w = absurd v
div-at f (inf s) y a b p v w = absurd v
div-at f (fin s m e) nan a b p v w = absurd w
div-at f (fin s m e) (inf t) a b p v w = absurd w
div-at f (fin s m e) (fin t n d) a b p v w =
    let x : m * up e ≡ a * down e = sym (mul-one (m * up e)) ∙ v.1 in
    let y : n * up d ≡ b * down d = sym (mul-one (n * up d)) ∙ w.1 in
    let some : 0 < n * up d = subst (λ (k : ℕ). 0 < k) (sym y) (mul-pos p (down_pos d)) in
    let cross : m * up e * down d * b ≡ a * (n * up d * down e) =
    ap (λ (k : ℕ). k * down d * b) x ∙ swap (down e) (down d) ∙ ap (λ (k : ℕ). a * (k * down e)) (sym y) in
    ap₂ (λ (s t : Bool). cond (eqb n 0) (cond (eqb m 0) nan (inf (unlike s t)))
    (round f (unlike s t) (m * up e * down d) (n * up d * down e))) v.0 w.0
    ∙ ap (λ (z : Bool). cond z (cond (eqb m 0) nan (inf false))
    (round f false (m * up e * down d) (n * up d * down e))) (ne_eqb n 0 (λ z. none (rw z at some)))
    ∙ round_same f false (m * up e * down d) (n * up d * down e) a b (mul-pos some (down_pos e)) p cross
  where
    none : 0 < 0 * up d → ⊥
    none h = omega arith

    swap : (i j : ℕ) → a * i * j * b ≡ a * (b * j * i)
    swap i j = simp (mul_assoc, mul_comm, mul_left_comm)

-- two casts, both exact, and a division: "rounded once"
pub div-quotient : (a b : ℕ) → a ≤ 2 ^ 53 → b ≤ 2 ^ 53 → 0 < b
    → div binary64 (of_int binary64 (pos a)) (of_int binary64 (pos b)) ≡ quotient a b
unfolding of_int
div-quotient a b l m p =
    div-at binary64 (round binary64 false a 1) (round binary64 false b 1) a b p (round_whole binary64 false a l)
    (round_whole binary64 false b m)

-- ---- order and zero

-- of two fractions the larger one's quotient is no smaller
pub quotient_le : (a b c d : ℕ) → 0 < b → 0 < d → a * d ≤ c * b → le (quotient a b) (quotient c d) ≡ true
quotient_le a b c d p q h = is_true _ (round_mono binary64 a b c d p q h)

zero_one : quotient 0 1 ≡ zero64
unfolding round
zero_one = refl

-- nothing, divided
pub quotient-zero : (b : ℕ) → 0 < b → quotient 0 b ≡ zero64
quotient-zero b p = round_same binary64 false 0 b 0 1 p (omega arith) (omega arith) ∙ zero_one

-- no quotient is below 0
pub quotient-pos : (a b : ℕ) → 0 < b → le zero64 (quotient a b) ≡ true
quotient-pos a b p =
    ap (λ (z : Float). le z (quotient a b)) (sym zero_one) ∙ quotient_le 0 1 a b (omega arith) p (omega arith)
