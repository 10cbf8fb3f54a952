use Rattle.std.proofs.Common.{arith}
use Rattle.std.proofs.lemmas.Grind.{common_steps}
use Rattle.page.specs.Rule.{page_ok}
use Rattle.page.proofs.rule.check_page.Goals as goal

pub returns-then-check_numbers : goal.returns-then-check_numbers
unfolding page_ok
returns-then-check_numbers c = grind (arith, common_steps)

pub returns-else-check_numbers : goal.returns-else-check_numbers
unfolding page_ok
returns-else-check_numbers c = grind (arith, common_steps)
