use Rattle.std.proofs.Common.{pred, max, ◌-◌, ◌≡◌, ◌≤◌}
use Rattle.address.specs.Address.{bit_point}
use Rattle.address.proofs.bit_point.Given as goal

-- what is left answers what was asked
abbrev pub invariant-loop-i : goal.invariant-loop-i
invariant-loop-i l =
    (l.i ≤ max l.s 1) × (bit_point l.spares l.bit 1 (pred l.s) ≡ bit_point l.spares l.bit l.i (l.s - l.i))
