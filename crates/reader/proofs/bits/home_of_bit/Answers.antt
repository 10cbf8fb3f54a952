use Rattle.std.proofs.Common.{arith}
use Rattle.address.specs.Limits.{max_blocks}
use Rattle.meta.specs.Addressed.{bit-inside}
use Rattle.reader.proofs.bits.home_of_bit.Goals as goal

pub bit_block-requires : goal.bit_block-requires
bit_block-requires c =
    let a = c.requires.0 in
    (omega (arith, a.low), omega (arith, bit-inside max_blocks c.args.m a c.args.n c.requires.1))
