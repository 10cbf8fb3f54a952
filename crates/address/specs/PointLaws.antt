-- The overflow point that a bucket came with, and that of a store, by the buckets in all at each point.
use Rattle.std.specs.Prelude.{◌≡◌, refl, ℕ, pred, ◌≤◌, ◌<◌}
use Rattle.std.proofs.Common.{ap, arith}
use Rattle.std.proofs.Math.Decide.{dec_le, dec_lt}
use Rattle.address.specs.Address.{buckets_at, point, bucket_point}
use Rattle.address.specs.OverLaws.{Over, over-unique, buckets-grow, buckets-mono, buckets-zero}
use Rattle.address.specs.BlockLaws.{bucket_point-is, point-is}

-- past k, if n is not below f k
pub over-past : (f : ℕ → ℕ) (k n j : ℕ) → Over f k n j → f k ≤ n → k < j
over-past f k n j o h = go (dec_lt k j)
  where
    go : Dec (k < j) → k < j
    go (yes l) = l
    go (no l) = let e : j ≡ k = omega (arith, o.from) in absurd (omega (arith, o.over, ap f e))

pub bucket_point-pos : (b : ℕ) → 1 ≤ b → 1 ≤ bucket_point b
bucket_point-pos b h = over-past buckets_at 0 b (bucket_point b) (bucket_point-is b) (omega (arith, buckets-zero))

pub bucket_point-le : (b i : ℕ) → b < buckets_at i → bucket_point b ≤ i
bucket_point-le b i h = go (dec_le (bucket_point b) i)
  where
    go : Dec (bucket_point b ≤ i) → bucket_point b ≤ i
    go (yes l) = l
    go (no l) =
        absurd (omega (arith, buckets-mono i (pred (bucket_point b)) (omega arith), (bucket_point-is b).least (omega arith)))

pub bucket_point-only : (b i : ℕ) → buckets_at (pred i) ≤ b → b < buckets_at i → bucket_point b ≡ i
bucket_point-only b i low high =
    over-unique buckets_at buckets-grow 0 b (bucket_point b) i (bucket_point-is b)
    (record { from = omega arith; over = high; least = λ _. low })

pub point-zero : point 0 ≡ 1
unfolding point
point-zero = refl

pub point-bucket_point : (m : ℕ) → 1 ≤ m → point m ≡ bucket_point m
point-bucket_point m h =
    over-unique buckets_at buckets-grow 1 m (point m) (bucket_point m) (point-is m)
    (record { from = bucket_point-pos m h; over = (bucket_point-is m).over; least = λ l. (bucket_point-is m).least (omega arith) })

pub point-le : (m i : ℕ) → m < buckets_at i → 1 ≤ i → point m ≤ i
point-le m i h one = go (dec_lt 0 m)
  where
    go : Dec (0 < m) → point m ≤ i
    go (yes l) = omega (arith, point-bucket_point m l, bucket_point-le m i h)
    go (no l) = let z : m ≡ 0 = omega arith in omega (arith, ap point z, point-zero)
