use Rattle.std.proofs.Common.{ap, leb, ℕ}
use Rattle.page.specs.Rule.{number_ok}
use Rattle.page.proofs.rule.check_number.Goals as goal

pub returns : goal.returns
unfolding number_ok
returns c = ap (λ (n : ℕ). leb n 40) c.count_entries.ensures
