use Rattle.std.proofs.Common.{sym, ◌∙◌, arith}
use Rattle.page.proofs.RuleLaws.{number-le}
use Rattle.page.proofs.Turns.{passed, failed, numbers-start, numbers-turn, numbers-end}
use Rattle.page.proofs.rule.check_numbers.Goals as goal

pub loop-k-init : goal.loop-k-init
loop-k-init c = numbers-start c.args.p.now c.count_entries-k-end.result c.count_entries-k-end.ensures

pub check_slot-requires : goal.check_slot-requires
check_slot-requires c = omega (arith, number-le c.args.p.now c.requires.number)

pub returns-then-not-check_slot : goal.returns-then-not-check_slot
returns-then-not-check_slot c =
    let k = c.loop-k in
    let turn = numbers-turn c.args.p.now c.count_entries-k-end.result k.k c.loop-k-test.true in
    sym (sym k.invariant ∙ failed _ _ _ turn (sym c.check_slot.ensures ∙ c.if-not-check_slot.true))

pub loop-k-preserved : goal.loop-k-preserved
loop-k-preserved c =
    let k = c.loop-k in
    let turn = numbers-turn c.args.p.now c.count_entries-k-end.result k.k c.loop-k-test.true in
    passed _ _ _ turn (sym c.check_slot.ensures ∙ c.if-not-check_slot.false) ∙ k.invariant

pub returns : goal.returns
returns c =
    let k = c.loop-k in
    sym (sym k.invariant ∙ numbers-end c.args.p.now c.count_entries-k-end.result k.k (omega arith))
