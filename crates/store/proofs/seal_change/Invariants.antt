use Rattle.std.proofs.Common.{length, ◌≡◌}
use Rattle.store.specs.Change.{seals}
use Rattle.store.proofs.seal_change.Given as goal

abbrev pub invariant-loop-n : goal.invariant-loop-n
invariant-loop-n l =
    (length l.images ≡ length l.initial.images) × (l.images ≡ seals l.number l.change.numbers l.initial.images l.n)
