use Rattle.std.proofs.Common.{arith, refl, sym, ◌∙◌}
use Rattle.chain.proofs.Searching.{first-whole, first-length, room-here, room-last, room-later, left_less}
use Rattle.chain.proofs.Searching.{left-bounded}
use Rattle.chain.proofs.search.first_room.Goals as goal

pub loop-page-init : goal.loop-page-init
loop-page-init c = record { bounded = c.requires; same = refl }

pub block_at-page-requires : goal.block_at-page-requires
block_at-page-requires c = first-whole c.args.store.now c.loop-page.block c.loop-page.invariant.bounded

pub count_entries-requires : goal.count_entries-requires
count_entries-requires c =
    first-length c.args.store.now c.loop-page.block c.loop-page.invariant.bounded c.block_at-page.ensures

pub returns-then-count_entries-lt40 : goal.returns-then-count_entries-lt40
returns-then-count_entries-lt40 c =
    sym (room-here c.args.store.now c.loop-page.block c.block_at-page.ensures
    (omega (arith, c.count_entries.ensures, c.if-count_entries-lt40.true)))
    ∙ c.loop-page.invariant.same

pub next_at-next-requires : goal.next_at-next-requires
next_at-next-requires c =
    first-length c.args.store.now c.loop-page.block c.loop-page.invariant.bounded c.block_at-page.ensures

pub returns-then-next : goal.returns-then-next
returns-then-next c =
    sym (room-last c.args.store.now c.loop-page.block c.block_at-page.ensures c.next_at-next.ensures
    c.if-next.true (omega (arith, c.count_entries.ensures, c.if-count_entries-lt40.false)))
    ∙ c.loop-page.invariant.same

pub loop-page-smaller : goal.loop-page-smaller
loop-page-smaller c =
    left_less c.args.store.now c.loop-page.block c.block_at-page.ensures c.next_at-next.ensures
    c.if-next.false c.loop-page.invariant.bounded

pub loop-page-preserved : goal.loop-page-preserved
loop-page-preserved c =
    let s = c.args.store.now in
    let k = c.loop-page.block in
    let i = c.loop-page.invariant in
    record {
      bounded = left-bounded s k c.block_at-page.ensures c.next_at-next.ensures c.if-next.false i.bounded;
      same =
          sym (room-later s k c.block_at-page.ensures c.next_at-next.ensures c.if-next.false i.bounded
          (omega (arith, c.count_entries.ensures, c.if-count_entries-lt40.false)))
          ∙ i.same;
    }
