use Rattle.std.proofs.Common.{le-ltb, lt-ltb}
use Rattle.view.proofs.lookup.is_fresh.Goals as goal

pub returns-then-j-n : goal.returns-then-j-n
returns-then-j-n c = let a = c.args in rw (lt-ltb a.j a.n c.if-j-n.true)

pub returns-else-j-n : goal.returns-else-j-n
returns-else-j-n c = let a = c.args in rw (le-ltb a.j a.n c.if-j-n.false)
