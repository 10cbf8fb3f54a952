use Rattle.std.proofs.Common.{ap, arith, refl, suc, sym, zero, ℕ, ◌-◌, ◌<◌, ◌^◌, ◌∙◌, ◌≡◌}
use Rattle.address.specs.Address.{high_mask, mask_digits, bit_length}
use Rattle.address.specs.MaskLaws.{digits-mask, high-mask}
use Rattle.address.proofs.Leading.{digits-leading, shift-ones}
use Rattle.address.proofs.high_mask.Goals as goal

small : (m : ℕ) → m < 2 → 3 ≡ high_mask m
unfolding high_mask mask_digits
small zero h = refl
small (suc zero) h = refl
small (suc (suc m)) h = absurd (omega arith)

pub returns-then-max-lt2 : goal.returns-then-max-lt2
returns-then-max-lt2 c = small c.args.max c.if-max-lt2.true

pub returns : goal.returns
returns c =
    let m = c.args.max in
    shift-ones _ (bit_length m) (digits-leading m c.ranges.max.fits)
    ∙ ap (λ (d : ℕ). 2 ^ d - 1) (digits-mask m (omega arith))
    ∙ sym (high-mask m)
