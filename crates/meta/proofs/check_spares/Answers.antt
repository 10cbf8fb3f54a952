use Rattle.std.proofs.Common.{arith}
use Rattle.std.proofs.lemmas.Grind.{common_steps}
use Rattle.image.specs.Rules.{spares_ok}
use Rattle.meta.proofs.check_spares.Goals as goal

pub returns-then-check_rising : goal.returns-then-check_rising
unfolding spares_ok
returns-then-check_rising c = grind (arith, common_steps)

pub returns-else-check_rising : goal.returns-else-check_rising
unfolding spares_ok
returns-else-check_rising c = grind (arith, common_steps)
