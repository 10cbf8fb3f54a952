use Rattle.std.proofs.Common.{sym, ◌∙◌}
use Rattle.merge.specs.Tree.{winner}
use Rattle.merge.proofs.Merge.winner_at.Goals as goal

pub returns-then-is_ahead : goal.returns-then-is_ahead
unfolding winner
returns-then-is_ahead c = rw (sym c.is_ahead.ensures ∙ c.if-is_ahead.true)

pub returns-else-is_ahead : goal.returns-else-is_ahead
unfolding winner
returns-else-is_ahead c = rw (sym c.is_ahead.ensures ∙ c.if-is_ahead.false)
