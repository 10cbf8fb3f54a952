-- The tests before a call, as the code answers them.
use Rattle.std.specs.Prelude.{◌≡◌, true, List, ℕ, Result, Ok, Err}
use Rattle.page.specs.declared.Pair.{Pair}
use Rattle.model.specs.declared.Refusal.{Refusal}
use Rattle.model.specs.Answers.{Answer}
use Rattle.model.specs.Calls.{pair_ok}
use Rattle.image.specs.declared.Verdict.{Verdict}
use Rattle.image.specs.Decode.{decode}
use Rattle.outcomes.specs.Outcomes.{Tested, passed, failed, tested}
use Rattle.index.specs.Sound.{Sound}

abbrev pub test_of : Tested → Answer
test_of (passed x) = Ok tt
test_of (failed r) = Err r

-- the test that a verdict gives
abbrev pub test_from : Verdict → Answer
test_from Verdict.BadLength = Err Refusal.Length
test_from (Verdict.Damaged k) = Err (Refusal.Damaged k)
test_from (Verdict.NotIndex r) = Err (Refusal.NotIndex r)
test_from Verdict.Sound = Ok tt

-- the pair of a call that passes
abbrev pub PairAnswer : Type 0
PairAnswer = Result Pair Refusal

-- what those before a call with the pair p find
abbrev pub PairTested : List ℕ → Pair → PairAnswer → Type 0
PairTested s p (Ok q) =
    (q ≡ p) × Sound s × (pair_ok q ≡ true) × (tested (pair_ok p) s ≡ passed (decode s))
PairTested s p (Err r) = tested (pair_ok p) s ≡ failed r
