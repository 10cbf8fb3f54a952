use Rattle.std.proofs.Common.{arith, sym, ◌*◌, ◌+◌, ◌≤◌}
use Rattle.chain.specs.Pairs.{is_match}
use Rattle.chain.specs.WithinLaws.{block-whole, block-page}
use Rattle.chain.proofs.Tallies.{count-few, count_turn, count-end}
use Rattle.chain.proofs.counting.count_in_walk.Goals as goal

pub block_at-page-requires : goal.block_at-page-requires
block_at-page-requires c = block-whole c.requires.0 c.loop-block.block-index c.loop-block-test.true

pub count_in_page-n-requires : goal.count_in_page-n-requires
count_in_page-n-requires c =
    (block-page c.requires.0 c.loop-block.block-index c.loop-block-test.true c.block_at-page.ensures).sorted c.requires.1

-- a page adds at most 40
bound : (c : goal.After-count_in_page-n) → c.loop-block.n + c.count_in_page-n.result ≤ 40 * (c.loop-block.block-index + 1)
bound c =
    let sorted =
    (block-page c.requires.0 c.loop-block.block-index c.loop-block-test.true c.block_at-page.ensures).sorted c.requires.1 in
    omega (
      arith,
      c.count_in_page-n.ensures,
      count-few sorted (is_match c.args.hash c.args.fresh),
      c.loop-block.invariant.few,
    )

pub overflow_add-n : goal.overflow_add-n
overflow_add-n c = omega (arith, bound c, c.loop-block-test.true, c.requires.0.few)

pub loop-block-preserved : goal.loop-block-preserved
loop-block-preserved c = record {
  few = bound c;
  left =
      count_turn c.args.store.now c.args.walk.now (is_match c.args.hash c.args.fresh) c.loop-block.block-index
      c.loop-block.n c.loop-block.invariant.left c.loop-block-test.true c.block_at-page.ensures
      c.count_in_page-n.ensures;
}

pub returns : goal.returns
returns c = (
  sym (count-end c.args.store.now c.args.walk.now (is_match c.args.hash c.args.fresh) c.loop-block.block-index
      c.loop-block.n c.loop-block.invariant.left c.loop-block-test.false),
  omega (arith, c.loop-block.invariant.few, c.loop-block.auto.block-index-end),
)
