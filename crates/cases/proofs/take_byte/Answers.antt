use Rattle.std.proofs.Common.{◌-◌, length, drop, arith, length-drop, take_all}
use Rattle.cases.proofs.take_byte.Goals as goal

pub returns : goal.returns
returns c =
    let line = c.args.rest.now.now in
    (omega arith, take_all (length line - 2) (drop 2 line) (omega (arith, length-drop 2 line)))
