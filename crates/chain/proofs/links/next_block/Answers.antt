use Rattle.std.proofs.Common.{ap, arith, length, sym, ◌∙◌}
use Rattle.lists.specs.Block.{blocks}
use Rattle.lists.specs.BlockLaws.{length-block}
use Rattle.store.specs.Store.{next_at}
use Rattle.chain.specs.WalkLaws.{next_past}
use Rattle.chain.proofs.links.next_block.Goals as goal

pub block_at-requires : goal.block_at-requires
block_at-requires c = omega arith

pub next_at-requires : goal.next_at-requires
next_at-requires c =
    ap length c.block_at.ensures ∙ length-block _ _ (omega arith)

pub returns-then-at-store : goal.returns-then-at-store
returns-then-at-store c = c.next_at.ensures ∙ ap next_at c.block_at.ensures

pub returns-else-at-store : goal.returns-else-at-store
unfolding blocks
returns-else-at-store c =
    sym (next_past c.args.store.now c.args.k c.if-at-store.false c.requires.whole)
