use Rattle.std.proofs.Common.{arith}
use Rattle.interpreter.specs.HeldLaws.{kept-room, kept_full}
use Rattle.interpreter.proofs.lines.keep_byte.Goals as goal

pub returns-then-seen-lt80 : goal.returns-then-seen-lt80
returns-then-seen-lt80 c = kept-room c.args.state c.args.byte (omega arith)

pub returns : goal.returns
returns c = kept_full c.args.state c.args.byte (omega arith)
