use Rattle.std.proofs.Common.{ap, arith, sym, ℕ, ◌*◌, ◌+◌, ◌-◌, ◌/◌, ◌<◌, ◌^◌, ◌∙◌, ◌≡◌, ◌≤◌}
use lib.Count.{count_leading_zeros}
use Rattle.address.specs.Address.{bucket_point, bit_length}
use Rattle.address.specs.DigitLaws.{quarter-low, quarter-high, point-low, point-high}
use Rattle.address.proofs.Leading.{digits-leading}
use Rattle.address.proofs.point_of_bucket.Goals as goal

-- leading zeros give the group
group-is : (b : ℕ) → b < 2 ^ 32 → 32 - count_leading_zeros 32 b ≡ bit_length b
group-is b h = omega (arith, digits-leading b h)

module _ (b : ℕ) (fits : b < 2 ^ 32) (high : 10 ≤ 32 - count_leading_zeros 32 b) where
  abbrev e : ℕ
  e = 32 - count_leading_zeros 32 b - 10

  group : bit_length b ≡ 10 + e
  group = omega (arith, group-is b fits)

  shift : 32 - count_leading_zeros 32 b - 3 ≡ 7 + e
  shift = omega arith

  quarter : b / 2 ^ (32 - count_leading_zeros 32 b - 3) ≡ b / 2 ^ (7 + e)
  quarter = ap (λ (k : ℕ). b / 2 ^ k) shift

  quarter-from : 4 ≤ b / 2 ^ (32 - count_leading_zeros 32 b - 3)
  quarter-from = omega (arith, quarter, quarter-low b e group)

  quarter-upto : b / 2 ^ (32 - count_leading_zeros 32 b - 3) < 8
  quarter-upto = omega (arith, quarter, quarter-high b e group)

  point-is : 10 + 4 * (32 - count_leading_zeros 32 b - 10) + (b / 2 ^ (32 - count_leading_zeros 32 b - 3) - 4) ≡ bucket_point b
  point-is = omega (arith, quarter, point-high b e group)

pub returns-then-group-lt10 : goal.returns-then-group-lt10
returns-then-group-lt10 c =
    let b = c.args.bucket in
    let d = group-is b c.ranges.bucket.fits in
    d ∙ sym (point-low b (omega (arith, c.if-group-lt10.true, d)))

pub overflow_sub-phase-2 : goal.overflow_sub-phase-2
overflow_sub-phase-2 c = quarter-from c.args.bucket c.ranges.bucket.fits c.if-group-lt10.false

pub overflow_add-result-2 : goal.overflow_add-result-2
overflow_add-result-2 c =
    omega (arith, quarter-upto c.args.bucket c.ranges.bucket.fits c.if-group-lt10.false)

pub returns : goal.returns
returns c = point-is c.args.bucket c.ranges.bucket.fits c.if-group-lt10.false
