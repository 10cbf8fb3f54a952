-- Where a digit was taken, the value is small and the rest is shorter.
use Rattle.std.proofs.Common.{◌≡◌, ◌<◌, MatchOption, length}
use Rattle.vectors.specs.Rest.{RestOf}
use Rattle.vectors.proofs.parse.read_number.Given as goal

abbrev pub invariant-loop-rest : goal.invariant-loop-rest
invariant-loop-rest l =
    MatchOption l.value (l.rest.now ≡ l.fn.rest.now)
    (λ v. (v < 65536) × (length l.rest.now < length l.fn.rest.now) × RestOf l.rest.now l.fn.rest.now)

abbrev pub decreases-loop-rest : goal.decreases-loop-rest
decreases-loop-rest l = length l.rest.now
