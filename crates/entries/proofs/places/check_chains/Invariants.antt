use Rattle.std.proofs.Common.{◌≡◌, suc, length}
use Rattle.lists.specs.Lists.{all}
use Rattle.address.specs.Limits.{max_blocks}
use Rattle.image.specs.Decode.{max_at}
use Rattle.image.specs.Rules.{buckets}
use Rattle.shape.specs.LoopLaws.{left}
use Rattle.entries.proofs.Homing.{homed}
use Rattle.entries.proofs.places.check_chains.Given as goal

abbrev pub invariant-loop-b : goal.invariant-loop-b
invariant-loop-b l =
    (left (homed l.store l.phase) (suc (max_at l.store)) l.b ≡ all (homed l.store l.phase) (buckets l.store))
    × (length l.blocks ≡ suc max_blocks)
