use Rattle.std.proofs.Common.{get_or, ◌+◌, ◌-◌, ◌≤◌}
use Rattle.address.specs.Address.{buckets_at}
use Rattle.address.proofs.role_of.Given as goal

-- the block is past the points before point i
abbrev pub invariant-loop-point : goal.invariant-loop-point
invariant-loop-point l =
    1 ≤ l.point - 1 → buckets_at (l.point - 1) + get_or l.spares (l.point - 1) 0 ≤ l.place
