use Rattle.std.proofs.Common.{◌≡◌, ◌+◌, ◌≤◌}
use Rattle.lists.specs.Lists.{tally}
use Rattle.page.specs.Entries.{entries_of}
use Rattle.shape.specs.LoopLaws.{rest}
use Rattle.entries.specs.Counts.{live_in}
use Rattle.entries.proofs.counts.count_page.Given as goal

abbrev pub invariant-loop-i : goal.invariant-loop-i
invariant-loop-i l =
    (l.live ≤ l.i)
    × (l.live + tally (live_in l.bucket.phase l.bucket.max l.bucket.number) (rest l.page l.i)
    ≡ tally (live_in l.bucket.phase l.bucket.max l.bucket.number) (entries_of l.page))
