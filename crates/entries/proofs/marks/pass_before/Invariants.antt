use Rattle.std.proofs.Common.{true, ◌/◌, length}
use Rattle.lists.specs.Lists.{tally}
use Rattle.merge.specs.Merge.{joined}
use Rattle.merge.specs.Heads.{pair_from, left_of, Underway}
use Rattle.entries.specs.Next.{Kept}
use Rattle.entries.proofs.marks.pass_before.Given as goal

abbrev pub invariant-loop-first : goal.invariant-loop-first
invariant-loop-first l = record {
  underway : Underway l.store l.pages l.merge;
  kept : Kept (left_of l.store l.pages l.fn.merge.tails) (left_of l.store l.pages l.merge.tails) (length l.pages)
      (pair_from l.first.key (l.first.tail / 64));
}

abbrev pub decreases-loop-first : goal.decreases-loop-first
decreases-loop-first l =
    tally (λ x. true) (joined (left_of l.store l.pages l.merge.tails) 0 (length l.pages))
