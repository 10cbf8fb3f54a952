use Rattle.std.proofs.Common.{◌≡◌}
use Rattle.store.specs.Change.{copies}
use Rattle.journal.specs.Journal.{name_in, image_in}
use Rattle.journal.proofs.recovery.copy_images.Given as goal

abbrev pub invariant-loop-i : goal.invariant-loop-i
invariant-loop-i l = l.store ≡ copies l.initial.store (name_in l.journal) (image_in l.journal) l.i
