use Rattle.std.proofs.Common.{◌≡◌, List, ℕ, Ok, Err, length, sym, ap, ap₂, ◌∙◌, arith}
use Rattle.lists.specs.Block.{blocks}
use Rattle.lists.specs.BlockLaws.{length-block}
use Rattle.store.specs.Store.{checks, checked}
use Rattle.chain.specs.WalkLaws.{length_ok-sized}
use Rattle.verify.proofs.Judging.{first-whole, damaged-start, damaged-here, damaged-later, undamaged}
use Rattle.verify.proofs.judge.Goals as goal
use Rattle.verify.proofs.judge.Goals.{After-check_block}

pub number_at-number-requires : goal.number_at-number-requires
number_at-number-requires c = first-whole c.args.store.now c.requires

pub overflow_cast-block-end : goal.overflow_cast-block-end
unfolding blocks
overflow_cast-block-end c = omega (arith, (length_ok-sized c.args.store.now c.requires).few)

pub loop-block-init : goal.loop-block-init
loop-block-init c = damaged-start c.args.store.now

pub block_at-requires : goal.block_at-requires
block_at-requires c = omega arith

pub check_block-requires : goal.check_block-requires
check_block-requires c = ap length c.block_at.ensures ∙ length-block c.args.store.now c.loop-block.block (omega arith)

-- what the test of a block tells
check : (c : After-check_block) → checked c.args.store.now c.loop-block.block ≡ c.check_block.result
unfolding checked
check c =
    sym (c.check_block.ensures
    ∙ ap₂ (λ (n : ℕ) (b : List ℕ). checks n c.loop-block.block b) c.number_at-number.ensures c.block_at.ensures)

pub returns-then-not-check_block : goal.returns-then-not-check_block
unfolding blocks
returns-then-not-check_block c =
    damaged-here c.args.store.now c.loop-block.block c.loop-block.invariant c.loop-block-test.true
    (check (goal.at.returns-then-not-check_block c).After-check_block ∙ c.if-not-check_block.true)

pub loop-block-preserved : goal.loop-block-preserved
unfolding blocks
loop-block-preserved c =
    damaged-later c.args.store.now c.loop-block.block c.loop-block.invariant c.loop-block-test.true
    (check (goal.at.loop-block-preserved c).After-check_block ∙ c.if-not-check_block.false)

pub returns-in-Ok : goal.returns-in-Ok
unfolding blocks
returns-in-Ok c =
    undamaged c.args.store.now c.loop-block.block c.loop-block.invariant c.loop-block-test.false (Ok tt) c.in-Ok.ensures

pub returns-in-Err : goal.returns-in-Err
unfolding blocks
returns-in-Err c =
    undamaged c.args.store.now c.loop-block.block c.loop-block.invariant c.loop-block-test.false (Err c.in-Err.rule)
    c.in-Err.ensures
