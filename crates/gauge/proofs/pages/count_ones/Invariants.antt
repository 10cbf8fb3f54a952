use Rattle.std.proofs.Common.{◌≡◌}
use Rattle.gauge.specs.Ones.{ones_in}
use Rattle.gauge.proofs.pages.count_ones.Given as goal

-- the bits before `n` are counted
abbrev pub invariant-loop-n : goal.invariant-loop-n
invariant-loop-n l = l.ones ≡ ones_in l.map l.n
