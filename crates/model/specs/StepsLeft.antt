-- The number of steps until the job is over.
use Rattle.std.specs.Prelude.{ℕ, ◌+◌}
use Rattle.lists.specs.Lists.{tally}
use Rattle.model.specs.Index.{Job, idle, copying, clearing, Index, entries_at, old_bucket}
use Rattle.model.specs.Steps.{moves, copies_left}

-- the old bucket's entries that map to the new one
abbrev pub old_entries : Index → ℕ
old_entries x = tally (moves x) (entries_at x (old_bucket x))

-- a step for each copy and each old entry, and one for the end of copying and of clearing
abbrev pub steps_in : Job → Index → ℕ
steps_in idle x = 0
steps_in copying x = (copies_left x + 1) + (old_entries x + 1)
steps_in clearing x = old_entries x + 1

unfoldable pub steps_left : Index → ℕ
steps_left x = steps_in x.job x
