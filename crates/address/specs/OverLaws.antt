-- The smallest number whose value by a growing function is above n; powers of two and the buckets in all at a point grow.
use Rattle.std.specs.Prelude.{◌≡◌, refl, Bool, true, false, ℕ, zero, suc, pred, ◌+◌, ◌-◌, ◌*◌, ◌/◌, ◌%◌, ◌≤◌, ◌<◌, ltb}
use Rattle.std.proofs.Common.{ap, arith, ltb→lt, nltb→le, pow_pos}
use Rattle.std.proofs.Math.Nat.{pow-succ'}
use Rattle.std.proofs.Math.Decide.{dec_lt}
use Rattle.address.specs.Address.{first_over, power, buckets_at}
use Rattle.address.specs.PhaseLaws.{buckets-low, buckets-phase}

abbrev pub Grows : (ℕ → ℕ) → Type 0
Grows f = (k : ℕ) → f k < f (suc k)

-- j is the smallest number of at least k with n below f j
pub record Over (f : ℕ → ℕ) (k n j : ℕ) : Type 0 where
  pub from : k ≤ j
  pub over : n < f j
  pub least : k < j → f (pred j) ≤ n

module _ (f : ℕ → ℕ) (grows : Grows f) where
  pub grows-mono : (i j : ℕ) → i ≤ j → f i ≤ f j
  grows-mono i zero h = let e : i ≡ 0 = omega arith in rw e (omega arith)
  grows-mono i (suc j) h = go (dec_lt i (suc j)) (grows-mono i j)
    where
      go : Dec (i < suc j) → (i ≤ j → f i ≤ f j) → f i ≤ f (suc j)
      go (yes l) ih = omega (arith, ih (omega arith), grows j)
      go (no l) ih = let e : i ≡ suc j = omega arith in rw e (omega arith)

  fuel-is : (fuel k n : ℕ) → n < f k + fuel → Over f k n (first_over f fuel k n)
  fuel-is zero k n h = record { from = omega arith; over = omega arith; least = λ l. absurd (omega arith) }
  fuel-is (suc fuel) k n h = go (ltb n (f k)) refl (fuel-is fuel (suc k) n)
    where
      go : (b : Bool) → ltb n (f k) ≡ b → (n < f (suc k) + fuel → Over f (suc k) n (first_over f fuel (suc k) n))
          → Over f k n (elim b [ true ↦ k | false ↦ first_over f fuel (suc k) n ])
      go true e ih = record { from = omega arith; over = ltb→lt n (f k) (rw e tt); least = λ l. absurd (omega arith) }
      go false e ih =
          let g : f k ≤ n = nltb→le n (f k) (rw e tt) in
          let r : Over f (suc k) n (first_over f fuel (suc k) n) = ih (omega (arith, grows k)) in
          record { from = omega (arith, r.from); over = r.over; least = λ l. low r g (dec_lt (suc k) (first_over f fuel (suc k) n)) }
        where
          low : Over f (suc k) n (first_over f fuel (suc k) n) → f k ≤ n → Dec (suc k < first_over f fuel (suc k) n)
              → f (pred (first_over f fuel (suc k) n)) ≤ n
          low r g (yes l) = r.least l
          low r g (no l) = let e : first_over f fuel (suc k) n ≡ suc k = omega (arith, r.from) in rw e g

  pub over-is : 0 < f 0 → (k n : ℕ) → Over f k n (first_over f n k n)
  over-is pos k n = fuel-is n k n (omega (arith, pos, grows-mono 0 k (omega arith)))

  not-less : (k n i j : ℕ) → Over f k n i → Over f k n j → i < j → ⊥
  not-less k n i j a b l = omega (arith, grows-mono i (pred j) (omega arith), a.over, b.least (omega (arith, a.from)))

  pub over-unique : (k n i j : ℕ) → Over f k n i → Over f k n j → i ≡ j
  over-unique k n i j a b = go (dec_lt i j) (dec_lt j i)
    where
      go : Dec (i < j) → Dec (j < i) → i ≡ j
      go (yes l) d = absurd (not-less k n i j a b l)
      go (no l) (yes g) = absurd (not-less k n j i b a g)
      go (no l) (no g) = omega arith

pub power-grows : Grows power
power-grows k = omega (arith, pow-succ' 2 k, pow_pos k)

-- ---- the laws of buckets in all at a point: all that blocks and roles use of them

pub buckets-grow : Grows buckets_at
buckets-grow k = go (dec_lt k 9) (dec_lt k 10)
  where
    phase : (e p : ℕ) → p < 4 → k ≡ 10 + 4 * e + p → buckets_at k < buckets_at (suc k)
    phase e zero h q =
        omega (arith, buckets-phase k e 0 h q, buckets-phase (suc k) e 1 (omega arith) (omega arith), pow_pos (7 + e))
    phase e (suc zero) h q =
        omega (arith, buckets-phase k e 1 h q, buckets-phase (suc k) e 2 (omega arith) (omega arith), pow_pos (7 + e))
    phase e (suc (suc zero)) h q =
        omega (arith, buckets-phase k e 2 h q, buckets-phase (suc k) e 3 (omega arith) (omega arith), pow_pos (7 + e))
    phase e (suc (suc (suc zero))) h q =
        let s : 7 + suc e ≡ suc (7 + e) = omega arith in
        omega (
          arith,
          buckets-phase k e 3 h q,
          buckets-phase (suc k) (suc e) 0 (omega arith) (omega arith),
          ap power s,
          pow-succ' 2 (7 + e),
          pow_pos (7 + e),
        )
    phase e (suc (suc (suc (suc p)))) h q = absurd (omega arith)

    go : Dec (k < 9) → Dec (k < 10) → buckets_at k < buckets_at (suc k)
    go (yes l) d = omega (arith, buckets-low k (omega arith), buckets-low (suc k) (omega arith), power-grows k)
    go (no l) (yes g) =
        let e : k ≡ 9 = omega arith in
        rw e (omega (arith, buckets-low 9 (omega arith), buckets-phase 10 0 0 (omega arith) refl))
    go (no l) (no g) = phase ((k - 10) / 4) ((k - 10) % 4) (omega arith) (omega arith)

pub buckets-mono : (i j : ℕ) → i ≤ j → buckets_at i ≤ buckets_at j
buckets-mono = grows-mono buckets_at buckets-grow

pub buckets-zero : buckets_at 0 ≡ 1
unfolding buckets_at
buckets-zero = refl

pub buckets-one : buckets_at 1 ≡ 2
unfolding buckets_at
buckets-one = refl
