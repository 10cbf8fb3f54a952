use Rattle.std.proofs.Common.{arith}
use Rattle.std.proofs.lemmas.Grind.{common_steps}
use Rattle.page.specs.Rule.{flags_ok}
use Rattle.page.proofs.rule.check_slot.Goals as goal

pub returns-then-flags-eq0 : goal.returns-then-flags-eq0
unfolding flags_ok
returns-then-flags-eq0 c = grind (arith, common_steps)

pub returns-else-flags-eq0 : goal.returns-else-flags-eq0
unfolding flags_ok
returns-else-flags-eq0 c = grind (arith, common_steps)
