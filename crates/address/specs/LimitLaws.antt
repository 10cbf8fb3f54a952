-- What the largest N says of overflow points and buckets.
use Rattle.std.specs.Prelude.{◌≡◌, refl, List, ℕ, ◌≤◌, ◌<◌}
use Rattle.std.proofs.Common.{arith}
use Rattle.std.proofs.Math.Decide.{dec_lt}
use Rattle.address.specs.Address.{buckets_at, made}
use Rattle.address.specs.Limits.{max_blocks, point_bound}
use Rattle.address.specs.OverLaws.{buckets-mono}

-- ---- computed

pub buckets-last : buckets_at point_bound ≡ max_blocks
unfolding buckets_at
buckets-last = refl

-- past the buckets that 16 spares place
pub buckets-sixteen : buckets_at 16 ≡ 1792
unfolding buckets_at
buckets-sixteen = refl

pub max-spared : max_blocks < buckets_at 16
max-spared = omega (arith, buckets-sixteen)

-- ---- made blocks that a store has room for

pub point-under : (sp : List ℕ) (s n : ℕ) → made sp s ≤ n → n ≤ max_blocks → s < point_bound
unfolding made
point-under sp s n room small = go (dec_lt s point_bound)
  where
    go : Dec (s < point_bound) → s < point_bound
    go (yes h) = h
    go (no h) = absurd (omega (arith, buckets-last, buckets-mono point_bound s (omega arith)))
