-- The tests before a call with a journal and a pair, as the code answers them.
use Rattle.std.specs.Prelude.{◌≡◌, true, length, Ok, Err}
use Rattle.page.specs.declared.Pair.{Pair}
use Rattle.model.specs.Calls.{pair_ok}
use Rattle.image.specs.Decode.{decode}
use Rattle.outcomes.specs.Outcomes.{passed, failed}
use Rattle.journal.specs.Journal.{Disk}
use Rattle.cuts.specs.Journalled.{tested_with}
use Rattle.index.specs.Tested.{PairAnswer}
use Rattle.index.specs.Sound.{Sound}

-- what those before a call with the pair p find
abbrev pub PairReady : Disk → Pair → PairAnswer → Type 0
PairReady d p (Ok q) =
    (q ≡ p) × Sound d.store × (pair_ok q ≡ true) × (length d.journal ≡ 8192)
    × (tested_with (pair_ok p) d ≡ passed (decode d.store))
PairReady d p (Err r) = tested_with (pair_ok p) d ≡ failed r
