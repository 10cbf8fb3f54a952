-- The digits of `rest` are still to come, and there is room for them.
use Rattle.std.proofs.Common.{◌≡◌, ◌++◌, ◌≤◌, length, drop}
use Rattle.text.specs.Digits.{digits}
use Rattle.text.proofs.spell.Given as goal

abbrev pub invariant-loop-rest : goal.invariant-loop-rest
invariant-loop-rest l =
    record {
      room : length (digits l.rest) ≤ l.at;
      at_most_20 : l.at ≤ 20;
      spelled : digits l.n ≡ digits l.rest ++ drop l.at l.space;
    }

abbrev pub decreases-loop-rest : goal.decreases-loop-rest
decreases-loop-rest l = l.at
