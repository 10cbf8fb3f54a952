use Rattle.std.proofs.Common.{refl, sym, ◌∙◌}
use Rattle.chain.proofs.Searching.{first-whole, first-length, last-here, last-later, left_less, left-bounded}
use Rattle.chain.proofs.links.last_block.Goals as goal

pub loop-first-init : goal.loop-first-init
loop-first-init c = record { bounded = c.requires; same = refl }

pub block_at-requires : goal.block_at-requires
block_at-requires c = first-whole c.args.store.now c.loop-first.block c.loop-first.invariant.bounded

pub next_at-next-requires : goal.next_at-next-requires
next_at-next-requires c =
    first-length c.args.store.now c.loop-first.block c.loop-first.invariant.bounded c.block_at.ensures

pub returns-then-next : goal.returns-then-next
returns-then-next c =
    sym (last-here c.args.store.now c.loop-first.block c.block_at.ensures c.next_at-next.ensures c.if-next.true)
    ∙ c.loop-first.invariant.same

pub loop-first-smaller : goal.loop-first-smaller
loop-first-smaller c =
    left_less c.args.store.now c.loop-first.block c.block_at.ensures c.next_at-next.ensures c.if-next.false
    c.loop-first.invariant.bounded

pub loop-first-preserved : goal.loop-first-preserved
loop-first-preserved c =
    let s = c.args.store.now in
    let k = c.loop-first.block in
    let i = c.loop-first.invariant in
    record {
      bounded = left-bounded s k c.block_at.ensures c.next_at-next.ensures c.if-next.false i.bounded;
      same = sym (last-later s k c.block_at.ensures c.next_at-next.ensures c.if-next.false i.bounded) ∙ i.same;
    }
