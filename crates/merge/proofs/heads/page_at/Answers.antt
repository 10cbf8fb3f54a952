use Rattle.std.proofs.Common.{arith}
use Rattle.lists.specs.Block.{blocks}
use Rattle.merge.proofs.heads.page_at.Goals as goal

pub block_at-requires : goal.block_at-requires
unfolding blocks
block_at-requires c = omega (arith, c.requires.0.inside c.args.i c.requires.1)
