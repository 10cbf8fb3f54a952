use Rattle.merge.specs.SecondLaws.{Runner}
use Rattle.merge.proofs.Merge.second_best.Given as goal

abbrev pub invariant-loop-k : goal.invariant-loop-k
invariant-loop-k l = Runner l.self.keys l.self.tails l.n l.j l.k l.page l.key

abbrev pub decreases-loop-k : goal.decreases-loop-k
decreases-loop-k l = l.k
