use Rattle.std.proofs.Common.{◌-◌, ◌≡◌}
use Rattle.page.specs.Rule.{order_ok}
use Rattle.page.proofs.Turns.{order_from}
use Rattle.page.proofs.rule.check_order.Given as goal

abbrev pub invariant-loop-k : goal.invariant-loop-k
invariant-loop-k l = order_from l.p l.k-end (l.k - 1) ≡ order_ok l.p
