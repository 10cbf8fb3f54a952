use Rattle.std.proofs.Common.{◌+◌, ◌-◌, ◌≡◌, ◌≤◌}
use Rattle.lists.specs.Lists.{tally, up_from}
use Rattle.image.specs.Rules.{is_overflow}
use Rattle.shape.proofs.links.count_overflow.Given as goal

abbrev pub invariant-loop-k : goal.invariant-loop-k
invariant-loop-k l = record {
  few : l.n ≤ l.k;
  left : l.n + tally (is_overflow l.store) (up_from l.k (l.size - l.k)) ≡ tally (is_overflow l.store) (up_from 0 l.size);
}
