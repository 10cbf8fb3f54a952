use Rattle.std.proofs.Common.{◌≡◌}
use Rattle.merge.specs.ReplayLaws.{Rising}
use Rattle.merge.proofs.Merge.replay.Given as goal

abbrev pub invariant-loop-k : goal.invariant-loop-k
invariant-loop-k l = record {
  rest : l.self ≡ record l.fn.self { tree = l.self.tree };
  rising : Rising l.self.keys l.self.tails l.n l.self.tree l.k l.page l.key;
}

abbrev pub decreases-loop-k : goal.decreases-loop-k
decreases-loop-k l = l.k
