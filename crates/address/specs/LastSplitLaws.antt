-- The highest bucket that split off from a bucket: that bucket and the highest one bit of the way to max bucket.
use Rattle.std.specs.Prelude.{◌≡◌, refl, Bool, true, false, cond, ◌&&◌, ◌||◌, ℕ, zero, suc, pred, ◌+◌, ◌-◌, ◌*◌, ◌^◌, ◌≤◌, ◌<◌, ltb, eqb}
use Rattle.std.proofs.Common.{ap, ◌∙◌, arith, lt-ltb, eq-eqb, ne_eqb, pow_pos, pow_mono}
use Rattle.std.proofs.Math.Nat.{pow-succ'}
use Rattle.std.proofs.Math.Decide.{dec_le, dec_lt}
use Rattle.address.specs.Address.{power, bit_length, split_from, last_split}
use Rattle.address.specs.OverLaws.{over-unique, power-grows}
use Rattle.address.specs.MaskLaws.{digits-is, top-le, split-lt}

-- ---- the highest one bit

pub top-is : (m : ℕ) → 1 ≤ m → m ≡ split_from m + 2 ^ pred (bit_length m)
unfolding split_from
top-is m h = omega (arith, top-le m h)

-- m is below twice its highest one bit
top-over : (m : ℕ) → 1 ≤ m → m < 2 * 2 ^ pred (bit_length m)
top-over m h = go (bit_length m) (digits-is m).over
  where
    go : (d : ℕ) → m < 2 ^ d → m < 2 * 2 ^ pred d
    go zero l = absurd (omega arith)
    go (suc d) l = omega (arith, pow-succ' 2 d)

-- a bucket and a bit above it split off from the bucket
pub split-add : (b k : ℕ) → b < 2 ^ k → split_from (b + 2 ^ k) ≡ b
unfolding split_from
split-add b k h =
    let e : bit_length (b + 2 ^ k) ≡ suc k =
    over-unique power power-grows 0 (b + 2 ^ k) (bit_length (b + 2 ^ k)) (suc k) (digits-is (b + 2 ^ k))
    (record { from = omega arith; over = omega (arith, pow-succ' 2 k); least = λ _. omega arith }) in
    ap (λ (d : ℕ). b + 2 ^ k - 2 ^ pred d) e ∙ omega arith

-- no power of two stands between the highest one bit of w and w
no-between : (w j : ℕ) → w - split_from w < 2 ^ j → 2 ^ j ≤ w → ⊥
no-between w j low up = go (dec_le j k)
  where
    k : ℕ
    k = pred (bit_length w)

    go : Dec (j ≤ k) → ⊥
    go (yes l) = omega (arith, top-is w (omega (arith, pow_pos j)), pow_mono l)
    go (no l) =
        let h : 2 ^ suc k ≤ 2 ^ j = pow_mono (omega arith) in
        omega (arith, top-over w (omega (arith, pow_pos j)), pow-succ' 2 k)

-- ---- the highest of a run

-- m is b, or split off from b
abbrev is_from : ℕ → ℕ → Bool
is_from b m = eqb m b || eqb (split_from m) b

not-from : (b m : ℕ) → (m ≡ b → ⊥) → (split_from m ≡ b → ⊥) → is_from b m ≡ false
not-from b m p q = rw (ne_eqb m b p, ne_eqb (split_from m) b q)

last-down : (max r b : ℕ) → r ≤ max → ((m : ℕ) → r < m → m ≤ max → is_from b m ≡ false)
    → last_split max b ≡ last_split r b
unfolding last_split
last-down zero r b h none = let e : 0 ≡ r = omega arith in ap (λ (k : ℕ). last_split k b) e
last-down (suc n) r b h none = go (dec_lt r (suc n)) (last-down n r b)
  where
    skip : (t c : Bool) → c ≡ false → cond (t && c) (suc n) (last_split n b) ≡ last_split n b
    skip true c e = rw e
    skip false c e = refl

    go : Dec (r < suc n) → (r ≤ n → ((m : ℕ) → r < m → m ≤ n → is_from b m ≡ false) → last_split n b ≡ last_split r b)
        → last_split (suc n) b ≡ last_split r b
    go (yes l) ih =
        skip (ltb 0 n) (is_from b (suc n)) (none (suc n) l (omega arith))
        ∙ ih (omega arith) (λ m p q. none m p (omega arith))
    go (no l) ih = let e : suc n ≡ r = omega arith in ap (λ (k : ℕ). last_split k b) e

last-at : (r b : ℕ) → 1 ≤ r → is_from b r ≡ true → last_split r b ≡ r
unfolding last_split
last-at zero b p h = absurd (omega arith)
last-at (suc zero) b p h = refl
last-at (suc (suc m)) b p h = rw (lt-ltb 0 (suc m) (omega arith), h)

-- ---- max bucket below b; the highest one bit of the way from b to max bucket above b; and not above it

pub last_none : (max b : ℕ) → max < b → last_split max b ≡ 1
unfolding last_split
last_none max b h =
    last-down max 0 b (omega arith)
    (λ m p q. not-from b m (λ e. omega (arith, e)) (λ e. omega (arith, e, split-lt m (omega arith))))

module _ (max b : ℕ) (l : b ≤ max) where
  -- above b and the highest one bit of the way nothing split off from b
  none_above : (r : ℕ) → b ≤ r → ((j : ℕ) → b < 2 ^ j → r < b + 2 ^ j → max - b - split_from (max - b) < 2 ^ j)
      → (m : ℕ) → r < m → m ≤ max → is_from b m ≡ false
  none_above r h top m p q = not-from b m (λ e. omega (arith, e)) (λ e. off e)
    where
      off : split_from m ≡ b → ⊥
      off e =
          let k : ℕ = pred (bit_length m) in
          let t : m ≡ split_from m + 2 ^ k = top-is m (omega arith) in
          no-between (max - b) k (top k (omega (arith, t, e, top-over m (omega arith))) (omega (arith, t, e)))
          (omega (arith, t, e))

  pub last-far : b < max - b - split_from (max - b) → last_split max b ≡ b + (max - b - split_from (max - b))
  last-far h =
      last-down max r b (omega arith) (none_above r (omega arith) (λ j p q. omega arith))
      ∙ last-at r b (omega arith) (off (eqb r b))
    where
      w : ℕ
      w = max - b

      r : ℕ
      r = b + (w - split_from w)

      top : w - split_from w ≡ 2 ^ pred (bit_length w)
      top = omega (arith, top-is w (omega arith))

      from : split_from r ≡ b
      from = ap (λ (t : ℕ). split_from (b + t)) top ∙ split-add b (pred (bit_length w)) (omega (arith, top))

      off : (t : Bool) → (t || eqb (split_from r) b) ≡ true
      off true = refl
      off false = eq-eqb (split_from r) b from

  pub last-own : 1 ≤ max → max - b - split_from (max - b) ≤ b → last_split max b ≡ b
  last-own p h =
      last-down max b b l (none_above b (omega arith) (λ j q r. omega arith))
      ∙ last-at b b (pos (dec_le 1 b)) (rw (eq-eqb b b refl))
    where
      pos : Dec (1 ≤ b) → 1 ≤ b
      pos (yes q) = q
      pos (no q) = absurd (omega (arith, split-lt (max - b) (omega arith)))
