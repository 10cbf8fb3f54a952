-- Leading zeros of a number below 2 ^ 32: its number of digits, its highest one bit, and the mask of its digits.
use mathlib.Core.Path.{◌≡◌, sym, ap, ◌∙◌}
use Prim.Native.Nat.{ℕ, zero, suc, pred, ◌+◌, ◌-◌, ◌*◌, ◌/◌, ◌%◌, ◌^◌, ◌≤◌, ◌<◌}
use native.Mathlib.Nat.{mod-eq_of_lt, one-mul, pow-succ'}
use native.Mathlib.Omega.{arith}
use lib.Count.{count_leading_zeros, leading_length}
use lib.Pow.{ones_split, ones_lt, high, pow-lt}
use Rattle.address.specs.Address.{power, bit_length}
use Rattle.address.specs.OverLaws.{Over, over-unique, power-grows}
use Rattle.address.specs.MaskLaws.{digits-is}
use Rattle.address.specs.PointLaws.{over-past}

pub digits-leading : (n : ℕ) → n < 2 ^ 32 → count_leading_zeros 32 n + bit_length n ≡ 32
digits-leading n h =
    let t = leading_length 32 n h in
    let e : bit_length n ≡ t.0 =
    over-unique power power-grows 0 n (bit_length n) t.0 (digits-is n) (length-is t.0 t.2 t.3) in
    ap (λ (d : ℕ). count_leading_zeros 32 n + d) e ∙ t.1
  where
    half : (m : ℕ) → 0 < m → 2 ^ m ≤ 2 * n + 1 → 2 ^ pred m ≤ n
    half zero p l = absurd (omega arith)
    half (suc j) p l = omega (arith, pow-succ' 2 j)

    length-is : (m : ℕ) → n < 2 ^ m → 2 ^ m ≤ 2 * n + 1 → Over power 0 n m
    length-is m over least = record { from = omega arith; over = over; least = λ p. half m p least }

-- a shift of 1 by less than the number of digits loses nothing
pub shift_one : (i : ℕ) → i < 32 → 1 * 2 ^ i % 4294967296 ≡ 2 ^ i
shift_one i h = ap (λ (x : ℕ). x % 4294967296) (one-mul (2 ^ i)) ∙ mod-eq_of_lt (pow-lt h)

-- 32 ones less the z highest
pub shift-ones : (z d : ℕ) → z + d ≡ 32 → 4294967295 / 2 ^ z ≡ 2 ^ d - 1
shift-ones z d e =
    let q : 2 ^ 32 ≡ 2 ^ (d + z) = ap power (sym e ∙ omega arith) in
    ap (λ (x : ℕ). (x - 1) / 2 ^ z) q ∙ ap (λ (x : ℕ). x / 2 ^ z) (ones_split d z) ∙ high (2 ^ d - 1) z (ones_lt z)

pub digits-pos : (n : ℕ) → 1 ≤ n → 1 ≤ bit_length n
digits-pos n h = over-past power 0 n (bit_length n) (digits-is n) h

pub leading_lt : (n : ℕ) → 1 ≤ n → n < 2 ^ 32 → count_leading_zeros 32 n ≤ 31
leading_lt n p h = omega (arith, digits-leading n h, digits-pos n p)

-- the highest one bit
pub shift_top : (n : ℕ) → 1 ≤ n → n < 2 ^ 32 → 1 * 2 ^ (31 - count_leading_zeros 32 n) % 4294967296 ≡ 2 ^ pred (bit_length n)
shift_top n p h =
    let e : 31 - count_leading_zeros 32 n ≡ pred (bit_length n) = omega (arith, digits-leading n h, digits-pos n p) in
    shift_one (31 - count_leading_zeros 32 n) (omega arith) ∙ ap power e
