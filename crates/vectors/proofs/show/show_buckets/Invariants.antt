-- The rest is one of the line, and each bucket takes a byte at least.
use Rattle.std.proofs.Common.{length}
use Rattle.vectors.specs.Rest.{RestOf}
use Rattle.vectors.proofs.show.show_buckets.Given as goal

abbrev pub invariant-loop-bucket : goal.invariant-loop-bucket
invariant-loop-bucket g l = RestOf l.rest.now l.fn.rest.now

abbrev pub decreases-loop-bucket : goal.decreases-loop-bucket
decreases-loop-bucket g l = length l.rest.now
