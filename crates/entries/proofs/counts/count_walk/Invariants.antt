use Rattle.std.proofs.Common.{◌≡◌, ◌+◌, ◌*◌, ◌≤◌, Bool, drop}
use Rattle.lists.specs.Lists.{tally, bind}
use Rattle.page.specs.declared.Entry.{Entry}
use Rattle.chain.specs.Within.{entries_on}
use Rattle.entries.specs.Counts.{live_in}
use Rattle.entries.proofs.counts.count_walk.Given as goal

abbrev pub invariant-loop-block : goal.invariant-loop-block
invariant-loop-block l =
    let live : Entry → Bool = live_in l.bucket.phase l.bucket.max l.bucket.number in
    (l.live ≤ 40 * l.block-index)
    × (l.live + tally live (bind (drop l.block-index l.walk) (entries_on l.store))
    ≡ tally live (bind l.walk (entries_on l.store)))
