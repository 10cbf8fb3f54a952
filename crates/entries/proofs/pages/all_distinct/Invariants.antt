use Rattle.std.proofs.Common.{◌≡◌, true, length}
use Rattle.lists.specs.Lists.{tally}
use Rattle.image.specs.Rules.{distinct}
use Rattle.merge.specs.Merge.{joined}
use Rattle.merge.specs.Heads.{page_at, left_of, Underway}
use Rattle.entries.proofs.pages.all_distinct.Given as goal

abbrev pub invariant-loop-first : goal.invariant-loop-first
invariant-loop-first l = record {
  underway : Underway l.store l.pages l.merge;
  answer : distinct (joined (left_of l.store l.pages l.merge.tails) 0 (length l.pages))
      ≡ distinct (joined (page_at l.store l.pages) 0 (length l.pages));
}

abbrev pub decreases-loop-first : goal.decreases-loop-first
decreases-loop-first l = tally (λ x. true) (joined (left_of l.store l.pages l.merge.tails) 0 (length l.pages))
