use Rattle.std.proofs.lemmas.List.{take_min}
use Rattle.interpreter.specs.Feed.{too_many}
use Rattle.interpreter.specs.HeldLaws.{kept-take}
use Rattle.interpreter.proofs.lines.keep.Goals as goal

pub returns : goal.returns
returns c = cc (kept-take c.args.state c.args.bytes.now, take_min too_many c.args.bytes.now)
