-- Each bit takes a byte at least.
use Rattle.std.proofs.Common.{length}
use Rattle.vectors.proofs.show.show_bits.Given as goal

abbrev pub decreases-loop-bit : goal.decreases-loop-bit
decreases-loop-bit g l = length l.rest
