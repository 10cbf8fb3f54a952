use Rattle.merge.specs.Heads.{Heads, CursorsAt}
use Rattle.merge.proofs.Merge.put_heads.Given as goal

abbrev pub invariant-loop-i : goal.invariant-loop-i
invariant-loop-i l =
    (Heads l.store l.pages l.i l.self.keys l.self.tails) × CursorsAt l.store l.pages l.from l.i l.self.tails
