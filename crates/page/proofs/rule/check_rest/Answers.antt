use Rattle.std.proofs.Common.{arith}
use Rattle.std.proofs.lemmas.Grind.{common_steps}
use Rattle.page.specs.Rule.{rest_zero}
use Rattle.page.proofs.RuleLaws.{number-le}
use Rattle.page.proofs.rule.check_rest.Goals as goal

pub overflow_mul-count_entries : goal.overflow_mul-count_entries
overflow_mul-count_entries c = omega (arith, number-le c.args.p.now c.requires.number)

pub overflow_add-count_entries : goal.overflow_add-count_entries
overflow_add-count_entries c = omega (arith, number-le c.args.p.now c.requires.number)

pub is_zero-requires : goal.is_zero-requires
is_zero-requires c = omega (arith, number-le c.args.p.now c.requires.number)

pub returns-then-get_u16-eq0 : goal.returns-then-get_u16-eq0
unfolding rest_zero
returns-then-get_u16-eq0 c = grind (arith, common_steps)

pub returns-else-get_u16-eq0 : goal.returns-else-get_u16-eq0
unfolding rest_zero
returns-else-get_u16-eq0 c = grind (arith, common_steps)
