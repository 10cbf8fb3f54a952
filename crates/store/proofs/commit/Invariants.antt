use Rattle.std.proofs.Common.{length, ◌≡◌}
use Rattle.store.specs.Change.{commits}
use Rattle.store.proofs.commit.Given as goal

abbrev pub invariant-loop-done : goal.invariant-loop-done
invariant-loop-done l =
    (length l.store ≡ length l.initial.store) × (l.store ≡ commits l.initial.store l.change.numbers l.images l.done)
