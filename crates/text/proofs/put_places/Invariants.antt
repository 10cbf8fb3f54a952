-- The matches so far are written.
use Rattle.std.proofs.Common.{◌+◌, ◌*◌, ◌≤◌}
use Rattle.lists.specs.Lists.{bind, up_from}
use Rattle.text.specs.Text.{place_text}
use Rattle.text.specs.Wrote.{Wrote}
use Rattle.text.proofs.put_places.Given as goal

abbrev pub invariant-loop-i : goal.invariant-loop-i
invariant-loop-i l =
    record {
      upper_bound : l.end ≤ l.at + 17 * l.i;
      wrote : Wrote l.initial.output l.at (bind (up_from 0 l.i) (place_text l.places)) l.output l.end;
    }
