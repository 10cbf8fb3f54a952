use Rattle.std.proofs.Common.{◌≡◌}
use Rattle.page.specs.Rule.{numbers_ok}
use Rattle.page.proofs.Turns.{numbers_from}
use Rattle.page.proofs.rule.check_numbers.Given as goal

abbrev pub invariant-loop-k : goal.invariant-loop-k
invariant-loop-k l = numbers_from l.p l.k-end l.k ≡ numbers_ok l.p
