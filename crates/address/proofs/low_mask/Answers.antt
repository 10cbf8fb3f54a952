use Rattle.std.proofs.Common.{ap, ℕ, ◌/◌}
use Rattle.address.specs.Address.{low_mask}
use Rattle.address.proofs.low_mask.Goals as goal

pub returns : goal.returns
unfolding low_mask
returns c = ap (λ (x : ℕ). x / 2) c.high_mask.ensures
