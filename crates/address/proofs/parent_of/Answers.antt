use Rattle.std.proofs.Common.{ap, arith, refl, suc, zero, ℕ, ◌-◌, ◌≡◌}
use Rattle.address.specs.Address.{split_from, bit_length}
use Rattle.address.specs.MaskLaws.{top-le}
use Rattle.address.proofs.Leading.{shift_top}
use Rattle.address.proofs.parent_of.Goals as goal

of_zero : (m : ℕ) → m ≡ 0 → 0 ≡ split_from m
unfolding split_from bit_length
of_zero zero e = refl
of_zero (suc m) e = absurd (omega arith)

pub returns-then-bucket-eq0 : goal.returns-then-bucket-eq0
returns-then-bucket-eq0 c = of_zero c.args.bucket c.if-bucket-eq0.true

pub overflow_sub-result-2 : goal.overflow_sub-result-2
overflow_sub-result-2 c =
    let b = c.args.bucket in
    omega (arith, shift_top b (omega arith) c.ranges.bucket.fits, top-le b (omega arith))

pub returns : goal.returns
unfolding split_from
returns c =
    let b = c.args.bucket in
    ap (λ (x : ℕ). b - x) (shift_top b (omega arith) c.ranges.bucket.fits)
