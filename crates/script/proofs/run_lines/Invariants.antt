-- What the lines so far used of the piece, and what they wrote.
use Rattle.std.proofs.Common.{◌≡◌, ◌-◌, ◌≤◌, length, take}
use Rattle.interpreter.specs.Machine.{on_bytes, state_of, ran_as}
use Rattle.interpreter.specs.Stores.{Serves}
use Rattle.script.proofs.run_lines.Given as goal

abbrev pub invariant-loop-used : goal.invariant-loop-used
invariant-loop-used l =
    record {
      used_within : l.used ≤ length l.piece;
      written_within : l.written ≤ length l.output;
      serves : Serves l.held l.store;
      ran : ran_as l.held l.store (take l.written l.output)
          ≡ on_bytes (state_of l.initial.held l.initial.store) (take l.used l.piece);
    }

abbrev pub decreases-loop-used : goal.decreases-loop-used
decreases-loop-used l = length l.piece - l.used
