-- The buckets in all at a point: a power of two up to point 9, and from 10 on five to eight quarters of one.
use Rattle.std.specs.Prelude.{◌≡◌, ℕ, suc, ◌+◌, ◌-◌, ◌*◌, ◌/◌, ◌%◌, ◌^◌, ◌<◌}
use Rattle.std.proofs.Math.Nat.{pow-succ'}
use Rattle.std.proofs.Common.{add-mul, arith, lt-ltb, le-ltb}
use Rattle.address.specs.Address.{phased, buckets_at}

pub buckets-low : (i : ℕ) → i < 10 → buckets_at i ≡ 2 ^ i
unfolding buckets_at
buckets-low i h = rw (lt-ltb i 10 h)

-- a phase of group 10 + e, in quarters of what stood there before the group
quarters : (e p : ℕ) → phased (10 + e) p ≡ (5 + p) * 2 ^ (7 + e)
quarters e p =
    let a : 10 + e - 1 ≡ suc (suc (7 + e)) = omega arith in
    let b : 10 + e - 3 ≡ 7 + e = omega arith in
    let q : 5 + p ≡ 4 + suc p = omega arith in
    rw (a, b, q, add-mul 4 (suc p) (2 ^ (7 + e))) (omega (arith, pow-succ' 2 (suc (7 + e)), pow-succ' 2 (7 + e)))

-- point i is phase p of group 10 + e
pub buckets-phase : (i e p : ℕ) → p < 4 → i ≡ 10 + 4 * e + p → buckets_at i ≡ (5 + p) * 2 ^ (7 + e)
unfolding buckets_at
buckets-phase i e p h q =
    let d : (i - 10) / 4 ≡ e = omega arith in
    let r : (i - 10) % 4 ≡ p = omega arith in
    rw (le-ltb i 10 (omega arith), d, r) (quarters e p)
