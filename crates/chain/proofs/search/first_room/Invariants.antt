use Rattle.std.proofs.Common.{length, ◌≡◌}
use Rattle.chain.specs.Walk.{walk, Bounded}
use Rattle.chain.specs.Search.{room_in}
use Rattle.chain.proofs.search.first_room.Given as goal

abbrev pub invariant-loop-page : goal.invariant-loop-page
invariant-loop-page l = record {
  bounded : Bounded l.store l.block;
  same : room_in l.store (walk l.store l.block) ≡ room_in l.store (walk l.store l.first);
}

abbrev pub decreases-loop-page : goal.decreases-loop-page
decreases-loop-page l = length (walk l.store l.block)
