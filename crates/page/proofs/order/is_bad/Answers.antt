use Rattle.std.proofs.Common.{eq-eqb, ne_eqb}
use Rattle.page.proofs.order.is_bad.Goals as goal

pub returns-then-p-eq0 : goal.returns-then-p-eq0
returns-then-p-eq0 c = rw (eq-eqb c.args.p.offset 0 c.if-p-eq0.true)

pub returns-else-p-eq0 : goal.returns-else-p-eq0
returns-else-p-eq0 c = rw (ne_eqb c.args.p.offset 0 c.if-p-eq0.false)
