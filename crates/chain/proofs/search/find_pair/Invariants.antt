use Rattle.std.proofs.Common.{drop, ◌≡◌}
use Rattle.lists.specs.Lists.{find}
use Rattle.chain.specs.Search.{pair_on}
use Rattle.chain.proofs.search.find_pair.Given as goal

abbrev pub invariant-loop-block : goal.invariant-loop-block
invariant-loop-block l = find (pair_on l.store l.pair) l.walk ≡ find (pair_on l.store l.pair) (drop l.block-index l.walk)
