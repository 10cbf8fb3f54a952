use Rattle.std.proofs.Common.{arith}
use Rattle.endian.specs.Endian.{u16_at}
use Rattle.endian.proofs.get_u16.Goals as goal

pub returns : goal.returns
unfolding u16_at
returns c = omega (arith, c.from_le_bytes.ensures)
