use Rattle.std.proofs.Common.{arith, refl, sym, ◌∙◌}
use Rattle.chain.specs.WithinLaws.{block-whole, block-page}
use Rattle.chain.proofs.Searching.{pair-here, pair-later, pair-nowhere}
use Rattle.chain.proofs.search.find_pair.Goals as goal

pub block_at-page-requires : goal.block_at-page-requires
block_at-page-requires c = block-whole c.requires.0 c.loop-block.block-index c.loop-block-test.true

pub find_slot-requires : goal.find_slot-requires
find_slot-requires c =
    (block-page c.requires.0 c.loop-block.block-index c.loop-block-test.true c.block_at-page.ensures).sorted c.requires.1

pub returns-in-Some : goal.returns-in-Some
returns-in-Some c =
    sym (pair-here c.args.store.now c.args.walk.now c.args.pair c.loop-block.block-index c.loop-block-test.true
    c.block_at-page.ensures c.in-Some.ensures _ refl c.loop-block.invariant)

pub loop-block-preserved : goal.loop-block-preserved
loop-block-preserved c =
    c.loop-block.invariant
    ∙ pair-later c.args.store.now c.args.walk.now c.args.pair c.loop-block.block-index c.loop-block-test.true
    c.block_at-page.ensures c.find_slot.ensures c.in_default.is

pub returns : goal.returns
returns c =
    sym (pair-nowhere c.args.store.now c.args.walk.now c.args.pair c.loop-block.block-index (omega arith)
    c.loop-block.invariant)
