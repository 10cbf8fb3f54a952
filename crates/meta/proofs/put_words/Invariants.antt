use Rattle.std.proofs.Common.{drop, length, ◌*◌, ◌+◌, ◌≡◌}
use lib.Seq.{sets}
use Rattle.lists.specs.Lists.{bind}
use Rattle.endian.specs.Endian.{le32}
use Rattle.meta.proofs.put_words.Given as goal

abbrev pub invariant-loop-i : goal.invariant-loop-i
invariant-loop-i l =
    (length l.part ≡ length l.initial.part)
    × (sets l.initial.part l.at (bind l.words le32) ≡ sets l.part (l.at + 4 * l.i) (bind (drop l.i l.words) le32))
