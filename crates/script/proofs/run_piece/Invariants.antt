-- What is left of the piece, from the state that its lines so far leave.
use Rattle.std.proofs.Common.{◌≡◌, ◌-◌, ◌≤◌, length, drop}
use Rattle.interpreter.specs.Machine.{on_bytes, state_of}
use Rattle.interpreter.specs.Stores.{Serves}
use Rattle.script.proofs.run_piece.Given as goal

abbrev pub invariant-loop-at : goal.invariant-loop-at
invariant-loop-at l =
    record {
      within : l.at ≤ length l.piece;
      serves : Serves l.held l.store;
      left : (on_bytes (state_of l.initial.held l.initial.store) l.piece).state
          ≡ (on_bytes (state_of l.held l.store) (drop l.at l.piece)).state;
    }

abbrev pub decreases-loop-at : goal.decreases-loop-at
decreases-loop-at l = length l.piece - l.at
