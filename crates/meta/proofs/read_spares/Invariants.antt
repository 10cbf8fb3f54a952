use Rattle.std.proofs.Common.{length, take, ◌≡◌}
use Rattle.image.specs.Decode.{words_at}
use Rattle.meta.proofs.read_spares.Given as goal

abbrev pub invariant-loop-i : goal.invariant-loop-i
invariant-loop-i l = (length l.spares ≡ 16) × (take l.i l.spares ≡ words_at l.part 40 l.i)
