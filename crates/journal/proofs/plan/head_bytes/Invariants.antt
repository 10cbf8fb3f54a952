use Rattle.std.proofs.Common.{◌≡◌}
use Rattle.journal.specs.WriteLaws.{head_with}
use Rattle.journal.proofs.plan.head_bytes.Given as goal

abbrev pub invariant-loop-i : goal.invariant-loop-i
invariant-loop-i l = l.head ≡ head_with l.number l.fn.change.count l.fn.change.numbers l.i
