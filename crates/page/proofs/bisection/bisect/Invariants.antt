use Rattle.std.proofs.Common.{ℕ, ◌+◌, ◌≤◌}
use Rattle.page.specs.Bisection.{Splits}
use Rattle.page.proofs.Bisect.{Between}
use Rattle.page.proofs.bisection.bisect.Given as goal

abbrev pub invariant-loop-left : goal.invariant-loop-left
invariant-loop-left g l =
    record {
      from : l.low ≤ l.at;
      upto : l.at + l.left ≤ l.high;
      between : (place : ℕ) → Splits (goal.F-post g l.key) l.low l.high l.bound place → Between place l.at l.left;
    }

abbrev pub decreases-loop-left : goal.decreases-loop-left
decreases-loop-left g l = l.left
