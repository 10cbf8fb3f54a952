use Rattle.std.proofs.Common.{drop, true, ◌+◌, ◌≡◌}
use Rattle.lists.specs.Lists.{tally}
use Rattle.page.specs.Entries.{entries_of}
use Rattle.page.specs.Places.{run_entries}
use Rattle.chain.specs.Pairs.{is_match}
use Rattle.chain.proofs.Tallies.{unmoved}
use Rattle.chain.proofs.counting.count_fresh.Given as goal

abbrev pub invariant-loop-i : goal.invariant-loop-i
invariant-loop-i l =
    tally (is_match l.hash true) (entries_of l.page) ≡ l.n + tally unmoved (drop l.i (run_entries l.run))
