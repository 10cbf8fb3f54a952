-- The spares that were taken are small, and so are the zeros after them; the rest is one of the line.
use Rattle.vectors.specs.Rest.{RestOf}
use Rattle.vectors.specs.Small.{Small}
use Rattle.vectors.proofs.parse.read_spares.Given as goal

abbrev pub invariant-loop-spare : goal.invariant-loop-spare
invariant-loop-spare l = Small l.spare-items × RestOf l.rest.now l.fn.rest.now
