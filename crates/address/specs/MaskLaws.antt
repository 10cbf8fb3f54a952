-- Masks: their number of digits, AND as a remainder, and the highest one bit.
use Rattle.std.specs.Prelude.{◌≡◌, refl, cond, ℕ, zero, suc, pred, ◌+◌, ◌-◌, ◌*◌, ◌%◌, ◌^◌, ◌≤◌, ◌<◌, leb}
use Rattle.std.proofs.Common.{sym, ap, ap₂, ◌∙◌, subst, arith, pow_pos}
use Rattle.std.proofs.Math.Nat.{pow-succ'}
use Rattle.std.specs.Int.Bits.{bit_and}
use Rattle.std.proofs.lemmas.Nat.{and_mask}
use Rattle.address.specs.Address.{power, mask_digits, high_mask, low_mask, bucket_of, bit_length, split_from}
use Rattle.address.specs.OverLaws.{Over, over-is, over-unique, power-grows}

pub mask_is : (m : ℕ) → Over power 2 m (mask_digits m)
unfolding mask_digits
mask_is m = over-is power power-grows (omega arith) 2 m

pub digits-is : (n : ℕ) → Over power 0 n (bit_length n)
unfolding bit_length
digits-is n = over-is power power-grows (omega arith) 0 n

-- the digits of the low mask
abbrev pub low_digits : ℕ → ℕ
low_digits m = pred (mask_digits m)

pub mask-suc : (m : ℕ) → mask_digits m ≡ suc (low_digits m)
mask-suc m = go (mask_digits m) (mask_is m).from
  where
    go : (d : ℕ) → 2 ≤ d → d ≡ suc (pred d)
    go d h = omega arith

pub high-size : (m : ℕ) → high_mask m + 1 ≡ 2 ^ mask_digits m
unfolding high_mask
high-size m = omega (arith, pow_pos (mask_digits m))

pub high-double : (m : ℕ) → high_mask m + 1 ≡ 2 * 2 ^ low_digits m
high-double m = high-size m ∙ ap power (mask-suc m) ∙ pow-succ' 2 (low_digits m)

pub low-size : (m : ℕ) → low_mask m + 1 ≡ 2 ^ low_digits m
unfolding low_mask
low-size m = omega (arith, high-double m, pow_pos (low_digits m))

pub high-mask : (m : ℕ) → high_mask m ≡ 2 ^ mask_digits m - 1
unfolding high_mask
high-mask m = refl

pub low_mask_lem : (m : ℕ) → low_mask m ≡ 2 ^ low_digits m - 1
low_mask_lem m = omega (arith, low-size m)

-- "h AND high mask; if above max bucket, h AND low mask"
pub bucket_of-and : (m h : ℕ)
    → bucket_of m h ≡ cond (leb (bit_and h (high_mask m)) m) (bit_and h (high_mask m)) (bit_and h (low_mask m))
unfolding bucket_of
bucket_of-and m h = ap₂ (λ (x y : ℕ). cond (leb x m) x y) (sym high) (sym low)
  where
    high : bit_and h (high_mask m) ≡ h % (high_mask m + 1)
    high = ap (bit_and h) (high-mask m) ∙ and_mask h (mask_digits m) ∙ ap (λ (k : ℕ). h % k) (sym (high-size m))

    low : bit_and h (low_mask m) ≡ h % (low_mask m + 1)
    low = ap (bit_and h) (low_mask_lem m) ∙ and_mask h (low_digits m) ∙ ap (λ (k : ℕ). h % k) (sym (low-size m))

-- from 2 on the high mask has the digits of m
pub digits-mask : (m : ℕ) → 2 ≤ m → bit_length m ≡ mask_digits m
digits-mask m h = over-unique power power-grows 2 m (bit_length m) (mask_digits m) two (mask_is m)
  where
    d : Over power 0 m (bit_length m)
    d = digits-is m

    high : (j : ℕ) → bit_length m ≡ j → 2 ≤ j
    high zero e = absurd (omega (arith, subst (λ (k : ℕ). m < 2 ^ k) e d.over))
    high (suc zero) e = absurd (omega (arith, subst (λ (k : ℕ). m < 2 ^ k) e d.over))
    high (suc (suc j)) e = omega arith

    two : Over power 2 m (bit_length m)
    two = record { from = high (bit_length m) refl; over = d.over; least = λ l. d.least (omega arith) }

-- the highest one bit
pub top-le : (m : ℕ) → 1 ≤ m → 2 ^ pred (bit_length m) ≤ m
top-le m h = (digits-is m).least (go (bit_length m) refl)
  where
    go : (j : ℕ) → bit_length m ≡ j → 0 < j
    go zero e = absurd (omega (arith, subst (λ (k : ℕ). m < 2 ^ k) e (digits-is m).over))
    go (suc j) e = omega arith

pub split-lt : (m : ℕ) → 1 ≤ m → split_from m < m
unfolding split_from
split-lt m h = omega (arith, pow_pos (pred (bit_length m)))
