use Rattle.std.proofs.Common.{eq-eqb, sym}
use Rattle.std.proofs.lemmas.Bool.{cond-true}
use Rattle.entries.proofs.next.is_next_before.Goals as goal

pub returns-then-next-first : goal.returns-then-next-first
returns-then-next-first c = sym (cond-true _ _ _ (eq-eqb _ _ c.if-next-first.true))
