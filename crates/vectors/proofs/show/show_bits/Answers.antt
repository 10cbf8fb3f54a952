use Rattle.std.proofs.Common.{arith}
use Rattle.vectors.proofs.Fits.{bit-fits}
use Rattle.vectors.proofs.show.show_bits.Goals as goal

pub bit_block-block-requires : goal.bit_block-block-requires
bit_block-block-requires g c = (omega arith, bit-fits _ _ _ (omega arith) c.in-Some.ensures.0)
