use Rattle.std.proofs.Common.{◌≡◌, Bool, true, false, List, ℕ, sym}
use Rattle.image.specs.Rules.{length_ok, verdict}
use Rattle.outcomes.specs.Outcomes.{tested_in, tested}
use Rattle.index.specs.Tested.{test_of}
use Rattle.index.proofs.tests.test_call.Goals as goal

-- bad numbers, by whether the length is legal
bad : (n l : Bool) (s : List ℕ) → n ≡ false → length_ok s ≡ l
    → test_of (tested_in l false (verdict s)) ≡ test_of (tested n s)
unfolding tested
bad n l s e f = sym (λ i. test_of (tested_in (f i) (e i) (verdict s)))

pub returns-then-check_length : goal.returns-then-check_length
returns-then-check_length c =
    bad c.args.numbers true c.args.store.now c.if-numbers.false (sym c.if-check_length.ensures)

pub returns-else-check_length : goal.returns-else-check_length
returns-else-check_length c =
    bad c.args.numbers false c.args.store.now c.if-numbers.false (sym c.if-check_length.ensures)
