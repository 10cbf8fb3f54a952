use Rattle.std.proofs.Common.{List, ℕ, ap, subst, sym, ◌∙◌, arith}
use Rattle.lists.specs.Lists.{tally}
use Rattle.page.specs.Allowed.{Sorted}
use Rattle.page.specs.Entries.{entries_of}
use Rattle.chain.specs.WithinLaws.{block-whole, block-sorted}
use Rattle.entries.specs.Counts.{live_in}
use Rattle.entries.proofs.Walking.{tally-turn, tally-done}
use Rattle.entries.proofs.counts.count_walk.Goals as goal

pub block_at-requires : goal.block_at-requires
block_at-requires c = omega (arith, block-whole c.requires.0 c.loop-block.block-index c.loop-block-test.true)

pub count_page-live-requires : goal.count_page-live-requires
count_page-live-requires c =
    subst Sorted (sym c.block_at.ensures)
    (block-sorted c.requires.0 c.loop-block.block-index c.loop-block-test.true c.requires.1)

pub overflow_add-live : goal.overflow_add-live
overflow_add-live c = omega (arith, c.loop-block.invariant.0, c.count_page-live.ensures.1, c.requires.0.few)

pub loop-block-preserved : goal.loop-block-preserved
loop-block-preserved c =
    let t = live_in c.args.bucket.phase c.args.bucket.max c.args.bucket.number in
    let turn =
    tally-turn c.args.store.now c.args.walk.now t c.loop-block.block-index c.loop-block-test.true
    c.count_page-live.result
    (c.count_page-live.ensures.0 ∙ ap (λ (l : List ℕ). tally t (entries_of l)) c.block_at.ensures) in (
      omega (arith, c.loop-block.invariant.0, c.count_page-live.ensures.1),
      omega (arith, c.loop-block.invariant.1, turn),
    )

pub returns : goal.returns
returns c =
    let t = live_in c.args.bucket.phase c.args.bucket.max c.args.bucket.number in
    let none = tally-done c.args.store.now c.args.walk.now t c.loop-block.block-index c.loop-block-test.false in
    (omega (arith, c.loop-block.invariant.1, none), omega (arith, c.loop-block.invariant.0, c.requires.0.few))
