-- The refusals by a call's tests, of each call but format: "The order is 1, 2, 3, 4, .. Format tests 1, 2 and 12 only"
use Rattle.std.specs.Prelude.{Bool, true, Err}
use Rattle.model.specs.declared.Refusal.{Refusal}
use Rattle.model.specs.Calls.{format_ok, pair_ok, budget_ok}
use Rattle.model.specs.Machine.{Call, formatting, inserting, removing, looking, working, squeezing, asking, Reply}
use Rattle.model.specs.Machine.{plain, looked, worked, stands}
use Rattle.model.specs.Book.{Effect, empties, puts, takes, leaves, has_steps}

-- the test of a call's own numbers before 3, by its effect; a squeeze's bucket is tested after 4
abbrev pub call_numbers_ok : Effect → Bool
call_numbers_ok (empties o) = format_ok o
call_numbers_ok (puts p) = pair_ok p
call_numbers_ok (takes p) = pair_ok p
call_numbers_ok leaves = true
call_numbers_ok (has_steps kind budget) = budget_ok budget

-- whether a call is refused by checks and rules: each but format is
abbrev pub Tests : Effect → Type 0
Tests (empties o) = ⊥
Tests (puts p) = Unit {0}
Tests (takes p) = Unit {0}
Tests leaves = Unit {0}
Tests (has_steps kind budget) = Unit {0}

-- a call's answer when it is refused; a lookup's output stays
abbrev pub refused_as : Call → Refusal → Reply
refused_as (formatting o) r = plain (Err r)
refused_as (inserting p) r = plain (Err r)
refused_as (removing p) r = plain (Err r)
refused_as (looking h out) r = looked (record { answer = Err r; output = out })
refused_as (working budget) r = worked (Err r)
refused_as (squeezing b budget) r = worked (Err r)
refused_as asking r = stands (Err r)
