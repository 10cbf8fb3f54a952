use Rattle.std.proofs.Common.{Bool}
use Rattle.page.specs.declared.Entry.{Entry}
use Rattle.page.specs.Entries.{entries_of}
use Rattle.split.specs.Seek.{Before, AnswersFrom}
use Rattle.split.proofs.search.first_in_page.Given as goal

abbrev pub invariant-loop-i : goal.invariant-loop-i
invariant-loop-i g l =
    (t : Entry → Bool) → Before t (entries_of l.page) l.from
    → AnswersFrom (goal.F-post g l.test) t (entries_of l.page) l.from → Before t (entries_of l.page) l.i
