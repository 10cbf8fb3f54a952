use Rattle.std.proofs.Common.{◌<◌, sym, arith}
use Rattle.endian.specs.Endian.{u16_at}
use Rattle.page.specs.EntriesLaws.{length-entries_of}
use Rattle.page.proofs.RuleLaws.{number-le}
use Rattle.split.specs.MoverLaws.{slot-here, slot-later, slot-answers, slot-found, slot-end}
use Rattle.split.proofs.search.first_in_page.Goals as goal

pub get_entry-entry-requires : goal.get_entry-entry-requires
get_entry-entry-requires g c = (
  omega (arith, number-le c.args.page.now c.requires.sorted.number, c.count_entries-i-end.ensures),
  c.requires.sorted.whole,
)

pub overflow_cast-result : goal.overflow_cast-result
overflow_cast-result g c =
    omega (arith, number-le c.args.page.now c.requires.sorted.number, c.count_entries-i-end.ensures)

pub returns-then-test-clause-seeks : goal.returns-then-test-clause-seeks
returns-then-test-clause-seeks g c t z a =
    let l = c.args.page.now in
    let i = c.loop-i.i in
    let more : i < u16_at l 0 = omega (arith, c.count_entries-i-end.ensures) in
    slot-here t l i more c.get_entry-entry.ensures (c.loop-i.invariant t z a)
    (sym (slot-answers t l i more c.get_entry-entry.ensures a c.loop-i.auto.i c.if-test.ensures))

pub returns-then-test-clause-located : goal.returns-then-test-clause-located
returns-then-test-clause-located g c =
    let l = c.args.page.now in
    let more : c.loop-i.i < u16_at l 0 = omega (arith, c.count_entries-i-end.ensures) in
    slot-found l _ more c.get_entry-entry.ensures c.requires.sorted c.args.block

pub returns-then-test-clause-inside : goal.returns-then-test-clause-inside
returns-then-test-clause-inside g c =
    omega (arith, length-entries_of c.args.page.now, c.count_entries-i-end.ensures)

pub loop-i-preserved : goal.loop-i-preserved
loop-i-preserved g c t z a =
    let l = c.args.page.now in
    let i = c.loop-i.i in
    let more : i < u16_at l 0 = omega (arith, c.count_entries-i-end.ensures) in
    slot-later t l i more c.get_entry-entry.ensures (c.loop-i.invariant t z a)
    (sym (slot-answers t l i more c.get_entry-entry.ensures a c.loop-i.auto.i c.if-test.ensures))

pub returns-clause-seeks : goal.returns-clause-seeks
returns-clause-seeks g c t z a =
    slot-end t c.args.page.now c.loop-i.i (c.loop-i.invariant t z a) (omega (arith, c.count_entries-i-end.ensures))
