use Rattle.std.proofs.Common.{drop, ◌*◌, ◌+◌, ◌≡◌, ◌≤◌}
use Rattle.lists.specs.Lists.{tally, bind}
use Rattle.chain.specs.Within.{entries_on}
use Rattle.chain.specs.Pairs.{is_match}
use Rattle.chain.proofs.counting.count_in_walk.Given as goal

abbrev pub invariant-loop-block : goal.invariant-loop-block
invariant-loop-block l = record {
  few : l.n ≤ 40 * l.block-index;
  left : tally (is_match l.hash l.fresh) (bind l.walk (entries_on l.store))
      ≡ l.n + tally (is_match l.hash l.fresh) (bind (drop l.block-index l.walk) (entries_on l.store));
}
