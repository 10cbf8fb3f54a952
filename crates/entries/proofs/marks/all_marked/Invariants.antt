use Rattle.std.proofs.Common.{◌≡◌, true, length}
use Rattle.lists.specs.Lists.{all, tally}
use Rattle.merge.specs.Merge.{joined}
use Rattle.merge.specs.Heads.{page_at, left_of, Underway}
use Rattle.entries.specs.Tests.{marked_by}
use Rattle.entries.proofs.marks.all_marked.Given as goal

abbrev pub invariant-loop-copy : goal.invariant-loop-copy
invariant-loop-copy l = record {
  news : Underway l.store l.new l.copies;
  olds : Underway l.store l.old l.originals;
  answer : all (marked_by (joined (left_of l.store l.old l.originals.tails) 0 (length l.old)))
      (joined (left_of l.store l.new l.copies.tails) 0 (length l.new))
      ≡ all (marked_by (joined (page_at l.store l.old) 0 (length l.old))) (joined (page_at l.store l.new) 0 (length l.new));
}

abbrev pub decreases-loop-copy : goal.decreases-loop-copy
decreases-loop-copy l = tally (λ x. true) (joined (left_of l.store l.new l.copies.tails) 0 (length l.new))
