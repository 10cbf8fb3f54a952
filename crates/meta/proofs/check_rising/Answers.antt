use Rattle.std.proofs.Common.{add-one, arith, get_or, le-leb, sym, ◌+◌, ◌∙◌}
use borrow.Author.Tests.{lt-leb}
use Rattle.meta.specs.Spares.{rises}
use Rattle.meta.specs.TurnLaws.{all_yes, all-no, all_end}
use Rattle.meta.proofs.check_rising.Goals as goal

pub returns-then-spares-i : goal.returns-then-spares-i
returns-then-spares-i c =
    let i = c.loop-i.i in
    let sp = c.args.spares in
    let falls = lt-leb (get_or sp i 0) (get_or sp (i + 1) 0) c.if-spares-i.true in
    sym (c.loop-i.invariant ∙ all-no (rises sp) i c.args.s (omega arith) (rw add-one at falls))

pub loop-i-preserved : goal.loop-i-preserved
loop-i-preserved c =
    let i = c.loop-i.i in
    let sp = c.args.spares in
    let rises' = le-leb (get_or sp i 0) (get_or sp (i + 1) 0) c.if-spares-i.false in
    c.loop-i.invariant ∙ all_yes (rises sp) i c.args.s (omega arith) (rw add-one at rises')

pub returns : goal.returns
returns c = sym (c.loop-i.invariant ∙ all_end (rises c.args.spares) c.loop-i.i c.args.s (omega arith))
