use Rattle.std.proofs.Common.{arith}
use Rattle.endian.specs.Endian.{u32_at}
use Rattle.endian.proofs.get_u32.Goals as goal

pub returns : goal.returns
unfolding u32_at
returns c = omega (arith, c.from_le_bytes.ensures)
