use Rattle.std.proofs.Common.{◌≡◌}
use Rattle.merge.specs.Tree.{Settled}
use Rattle.merge.specs.ReplayLaws.{Under}
use Rattle.merge.proofs.Merge.build_tree.Given as goal

abbrev pub invariant-loop-k : goal.invariant-loop-k
invariant-loop-k l =
    (l.self ≡ record l.fn.self { tree = l.self.tree })
    × Settled l.self.keys l.self.tails l.n l.self.tree (Under l.k)
