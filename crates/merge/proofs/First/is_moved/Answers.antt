use Rattle.std.proofs.Common.{length, ap, ◌∙◌, arith}
use Rattle.lists.specs.Block.{blocks}
use Rattle.lists.specs.BlockLaws.{length-block}
use Rattle.merge.proofs.First.is_moved.Goals as goal

pub block_at-requires : goal.block_at-requires
unfolding blocks
block_at-requires c = omega (arith, c.requires.0)

pub get_entry-requires : goal.get_entry-requires
unfolding blocks
get_entry-requires c = (
  c.requires.1,
  ap length c.block_at.ensures ∙ length-block c.args.store.now c.args.block (omega (arith, c.requires.0)),
)
