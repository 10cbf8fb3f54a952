use Rattle.std.proofs.Common.{◌-◌, arith}
use Rattle.journal.specs.NthLaws.{did-image, did-head, did-end, did-page, did-wipe}
use Rattle.journal.proofs.Parts.{length-of-block}
use Rattle.journal.proofs.plan.store_planned.Goals as goal

pub returns-then-n-count : goal.returns-then-n-count
returns-then-n-count c =
    let a = c.args in
    did-image a.plan.now a.store.now a.journal.now _ _ a.n (omega arith)
    c.block_at.ensures c.put_block.ensures

pub returns-then-past-eq0 : goal.returns-then-past-eq0
returns-then-past-eq0 c =
    let a = c.args in
    did-head a.plan.now a.store.now a.journal.now _ _ a.n (omega arith)
    c.block_at-then-past-eq0.ensures c.put_block-then-past-eq0.ensures

pub returns-then-past-eq1 : goal.returns-then-past-eq1
returns-then-past-eq1 c =
    let a = c.args in
    did-end a.plan.now a.store.now a.journal.now _ _ a.n (omega arith)
    c.block_at-then-past-eq1.ensures c.put_block-then-past-eq1.ensures

pub put_block-requires-then-i-count : goal.put_block-requires-then-i-count
put_block-requires-then-i-count c =
    let few = c.requires.plan_bound.0 in
    let n = c.plan_count-count in (
      omega (arith, c.requires.by_index (c.args.n - n.result - 2) (omega arith) (omega arith)),
      length-of-block _ c.args.plan.now _ c.block_at-then-i-count.ensures (omega arith),
    )

pub returns-then-i-count : goal.returns-then-i-count
returns-then-i-count c =
    let n = c.plan_count-count in
    let a = c.args in
    did-page a.plan.now a.store.now a.journal.now _ _ a.n (a.n - n.result - 2) _ (omega arith)
    (omega arith) c.plan_name-name.ensures c.block_at-then-i-count.ensures
    c.put_block-then-i-count.ensures

pub returns : goal.returns
returns c =
    let a = c.args in
    did-wipe a.plan.now a.store.now a.journal.now _ _ a.n (omega (arith, c.requires.plan_bound.1))
    c.block_at-2.ensures c.put_block-2.ensures
