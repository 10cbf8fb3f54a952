use Rattle.std.proofs.Common.{length, ◌≡◌}
use Rattle.chain.specs.Walk.{walk, last_of, Bounded}
use Rattle.chain.proofs.links.last_block.Given as goal

abbrev pub invariant-loop-first : goal.invariant-loop-first
invariant-loop-first l = record {
  bounded : Bounded l.store l.block;
  same : last_of (walk l.store l.block) ≡ last_of (walk l.store l.first);
}

abbrev pub decreases-loop-first : goal.decreases-loop-first
decreases-loop-first l = length (walk l.store l.block)
