use Rattle.std.proofs.Common.{◌≡◌, length, ap, ◌∙◌, arith, rules, get_or-take}
use Rattle.journal.specs.WriteLaws.{head_with, head_with-none, head_with-suc}
use Rattle.journal.proofs.plan.head_bytes.Goals as goal

pub loop-i-init : goal.loop-i-init
loop-i-init c = cc (head_with-none c.args.number c.args.change.count c.args.change.numbers)

pub loop-i-preserved : goal.loop-i-preserved
loop-i-preserved c =
    let a = c.args in
    let i = c.loop-i.i in
    let eight : length a.change.numbers ≡ 8 = search rules in
    let read = get_or-take a.change.count a.change.numbers i 0 (omega arith) in
    cc (head_with-suc a.number a.change.count a.change.numbers i (omega arith) (omega arith))

pub returns : goal.returns
returns c =
    let a = c.args in
    let full : c.loop-i.i ≡ a.change.count = omega arith in
    c.loop-i.invariant ∙ ap (head_with a.number a.change.count a.change.numbers) full
