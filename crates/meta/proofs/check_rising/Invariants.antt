use Rattle.std.proofs.Common.{◌-◌, ◌≡◌}
use Rattle.lists.specs.Lists.{all, up_from}
use Rattle.meta.specs.Spares.{rises}
use Rattle.meta.proofs.check_rising.Given as goal

abbrev pub invariant-loop-i : goal.invariant-loop-i
invariant-loop-i l = all (rises l.spares) (up_from 1 (l.s - 1)) ≡ all (rises l.spares) (up_from l.i (l.s - l.i))
