use Rattle.std.proofs.Common.{arith}
use Rattle.address.specs.Address.{made}
use Rattle.address.proofs.made_blocks.Goals as goal

pub returns : goal.returns
unfolding made
returns c = omega arith
