use Rattle.std.proofs.Common.{◌≡◌}
use Rattle.lists.specs.Lists.{all, up_from}
use Rattle.image.specs.Rules.{top_at, bit_ok}
use Rattle.shape.specs.LoopLaws.{left}
use Rattle.shape.proofs.bits.check_made.Given as goal

abbrev pub invariant-loop-n : goal.invariant-loop-n
invariant-loop-n l = left (bit_ok l.store) (top_at l.store) l.n ≡ all (bit_ok l.store) (up_from 0 (top_at l.store))
