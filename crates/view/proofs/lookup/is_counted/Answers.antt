use Rattle.std.proofs.Common.{not, ap}
use Rattle.view.proofs.lookup.is_counted.Goals as goal

pub returns-then-not-fresh : goal.returns-then-not-fresh
returns-then-not-fresh c = rw c.if-not-fresh.true

pub returns : goal.returns
returns c = rw c.if-not-fresh.false (ap not c.is_moved.ensures)
