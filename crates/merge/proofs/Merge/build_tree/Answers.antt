use Rattle.std.proofs.Common.{ap, ◌-◌, set, arith}
use Rattle.merge.specs.declared.Merge.{Merge}
use Rattle.merge.specs.ReplayLaws.{leaves-settled, built-next, built-won}
use Rattle.merge.specs.SecondLaws.{won-put, second_none}
use Rattle.merge.proofs.Merge.build_tree.Goals as goal

pub loop-k-init : goal.loop-k-init
loop-k-init c =
    let s = c.put_leaves.new.self in
    let e = c.put_leaves.ensures in
    (e.rest, leaves-settled s.keys s.tails c.args.n s.tree e.size e.leaves)

pub loop-k-preserved : goal.loop-k-preserved
loop-k-preserved c =
    let l = c.loop-k.self in (
      ap (λ (m : Merge). record m { tree = set l.tree (c.loop-k.k - 1) c.winner_at-page.result }) c.loop-k.invariant.0,
      rw c.winner_at-page.ensures
          (built-next l.keys l.tails c.args.n l.tree c.loop-k.k (omega arith) (omega arith) (omega arith)
          c.loop-k.invariant.1),
    )

pub returns-clause-won : goal.returns-clause-won
returns-clause-won c =
    let l = c.loop-k.self in
    won-put (built-won l.keys l.tails c.args.n l.tree c.loop-k.k (omega arith) c.loop-k.invariant.1) c.args.n

pub returns-clause-second : goal.returns-clause-second
returns-clause-second c =
    let l = c.loop-k.self in
    second_none (built-won l.keys l.tails c.args.n l.tree c.loop-k.k (omega arith) c.loop-k.invariant.1)
