use Rattle.std.proofs.Common.{◌≡◌}
use Rattle.lists.specs.Lists.{all, up_from}
use Rattle.lists.specs.Block.{blocks}
use Rattle.shape.specs.LoopLaws.{left}
use Rattle.shape.proofs.Fitting.{fits_at}
use Rattle.shape.proofs.roles.check_fits.Given as goal

abbrev pub invariant-loop-k : goal.invariant-loop-k
invariant-loop-k l = left (fits_at l.store) (blocks l.store) l.k ≡ all (fits_at l.store) (up_from 0 (blocks l.store))
