use Rattle.std.proofs.Common.{◌≡◌, ◌≤◌, ◌<◌, sym, ap, ◌∙◌, arith}
use Rattle.lists.specs.Lists.{b2n, tally}
use Rattle.endian.specs.Endian.{u16_at}
use Rattle.page.specs.Entries.{entry_at}
use Rattle.page.proofs.RuleLaws.{number-le}
use Rattle.entries.specs.Counts.{live_in}
use Rattle.shape.specs.LoopLaws.{rest-start, rest-turn, rest-done}
use Rattle.entries.proofs.counts.count_page.Goals as goal
use Rattle.entries.proofs.counts.count_page.Goals.{else-is_live, then-is_live}

pub loop-i-init : goal.loop-i-init
loop-i-init c =
    let a = c.args in
    (omega arith, omega (arith, ap (tally (live_in a.bucket.phase a.bucket.max a.bucket.number)) (rest-start a.page.now)))

pub get_entry-requires : goal.get_entry-requires
get_entry-requires c =
    (omega (arith, c.count_entries-i-end.ensures, number-le c.args.page.now c.requires.number), c.requires.whole)

pub overflow_add-live : goal.overflow_add-live
overflow_add-live c =
    omega (arith, c.loop-i.invariant.0, c.count_entries-i-end.ensures, number-le c.args.page.now c.requires.number)

pub loop-i-preserved : goal.loop-i-preserved
loop-i-preserved c =
    let a = c.args in
    let t = live_in a.bucket.phase a.bucket.max a.bucket.number in
    let more : c.loop-i.i < u16_at a.page.now 0 = omega (arith, c.count_entries-i-end.ensures, c.loop-i-test.true) in
    let turn = ap (tally t) (rest-turn a.page.now c.loop-i.i more) in
    let found : t (entry_at a.page.now c.loop-i.i) ≡ c.is_live.result =
    sym (c.is_live.ensures ∙ ap t c.get_entry.ensures) in
    elim c.if-is_live.branch [
      | then-is_live w ↦ (omega arith, omega (arith, c.loop-i.invariant.1, turn, ap b2n (found ∙ w.if-is_live.true)))
      | else-is_live w ↦ (omega arith, omega (arith, c.loop-i.invariant.1, turn, ap b2n (found ∙ w.if-is_live.false)))
    ]

pub returns : goal.returns
returns c =
    let a = c.args in
    let past : u16_at a.page.now 0 ≤ c.loop-i.i = omega (arith, c.count_entries-i-end.ensures, c.loop-i-test.false) in
    let none = ap (tally (live_in a.bucket.phase a.bucket.max a.bucket.number)) (rest-done a.page.now c.loop-i.i past) in (
      omega (arith, c.loop-i.invariant.1, none),
      omega (arith, c.loop-i.invariant.0, c.count_entries-i-end.ensures, number-le a.page.now c.requires.number),
    )
