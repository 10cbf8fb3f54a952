use Rattle.std.proofs.Common.{length, suc, ◌≡◌}
use Rattle.address.specs.Limits.{max_blocks}
use Rattle.shape.proofs.Chaining.{Linking}
use Rattle.shape.proofs.links.check_links.Given as goal

abbrev pub invariant-loop-b : goal.invariant-loop-b
invariant-loop-b l = record {
  linking : Linking l.store l.links l.b;
  room : length l.blocks ≡ suc max_blocks;
}
