use Rattle.std.proofs.Common.{length, suc, take, ◌++◌, ◌+◌, ◌-◌, ◌≡◌}
use Rattle.address.specs.Limits.{max_blocks}
use Rattle.image.specs.Decode.{follow}
use Rattle.chain.specs.Walk.{walk}
use Rattle.chain.proofs.links.walk_chain.Given as goal

abbrev pub invariant-loop-count : goal.invariant-loop-count
invariant-loop-count l = record {
  room : length l.blocks ≡ suc max_blocks;
  so_far : take l.count l.blocks ++ follow l.store (l.n + 1 - l.count) l.last ≡ walk l.store l.first;
}
