use Rattle.std.proofs.Common.{arith, rules}
use Rattle.std.proofs.lemmas.Grind.{common_steps}
use Rattle.vectors.proofs.Fits.{small-set, small-zeros}
use Rattle.vectors.proofs.parse.read_spares.Goals as goal

pub loop-spare-init : goal.loop-spare-init
loop-spare-init c = (small-zeros 16, grind (arith, common_steps))

pub loop-spare-preserved : goal.loop-spare-preserved
loop-spare-preserved c = (small-set _ _ _ c.loop-spare.invariant.0 (search rules), grind (arith, common_steps))
