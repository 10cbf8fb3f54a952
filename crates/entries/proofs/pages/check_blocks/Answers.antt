use Rattle.std.proofs.Common.{length, ap, ◌∙◌, arith}
use Rattle.chain.specs.WithinLaws.{block-whole, block-length}
use Rattle.entries.proofs.pages.check_blocks.Goals as goal

pub block_at-requires : goal.block_at-requires
block_at-requires c = omega (arith, block-whole c.requires c.loop-block.block-index c.loop-block-test.true)

pub check_page-requires : goal.check_page-requires
check_page-requires c =
    ap length c.block_at.ensures ∙ block-length c.requires c.loop-block.block-index c.loop-block-test.true
