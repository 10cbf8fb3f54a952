-- Calls, replies, and a machine that runs them: the index as a value is one, a store of bytes another.
use Rattle.std.specs.Prelude.{Bool, true, false, List, ℕ, ◌^◌, ◌<◌, eqb}
use Rattle.std.specs.Prelude.{Ok, Err}
use Rattle.std.proofs.Math.Option.{Option, none, some}
use Rattle.page.specs.declared.Pair.{Pair}
use Rattle.model.specs.declared.Order.{Order}
use Rattle.model.specs.declared.Refusal.{Refusal}
use Rattle.model.specs.Answers.{Answer, WorkAnswer, StandingAnswer, answer_no, lookup_no, work_no, standing_no, work_of}
use Rattle.model.specs.Index.{Index}
use Rattle.model.specs.Held.{count}
use Rattle.model.specs.Steps.{Step, Worked, step}
use Rattle.model.specs.Squeeze.{squeeze_step, squeeze, bucket_test}
use Rattle.model.specs.Calls.{Result, done, refused, budget_ok, formatted, insert, remove, Looked, lookup}
use Rattle.model.specs.Calls.{standing, work}

-- A call with its numbers; a lookup lends an output.
pub data Call : Type 0 where
  formatting : Order → Call
  inserting : Pair → Call
  removing : Pair → Call
  looking : (hash : ℕ) → (output : List ℕ) → Call
  working : (budget : ℕ) → Call
  squeezing : (bucket budget : ℕ) → Call
  asking : Call

-- the numbers come as u32
abbrev pub CallFits : Call → Type 0
CallFits (formatting o) = (o.fill < 2 ^ 32) × (o.number < 2 ^ 32) × (o.overwrite < 2 ^ 32)
CallFits (inserting p) = (p.hash < 2 ^ 32) × (p.block < 2 ^ 32) × (p.offset < 2 ^ 32)
CallFits (removing p) = (p.hash < 2 ^ 32) × (p.block < 2 ^ 32) × (p.offset < 2 ^ 32)
CallFits (looking h out) = h < 2 ^ 32
CallFits (working budget) = budget < 2 ^ 32
CallFits (squeezing b budget) = (b < 2 ^ 32) × (budget < 2 ^ 32)
CallFits asking = Unit {0}

-- Whose steps a call makes: those of splits, or those of a squeeze of a bucket.
pub data Kind : Type 0 where
  of_splits : Kind
  of_squeeze : (bucket : ℕ) → Kind

-- the call that makes them
abbrev pub stepping : Kind → (budget : ℕ) → Call
stepping of_splits budget = working budget
stepping (of_squeeze b) budget = squeezing b budget

-- What a call answers: format, insert and remove; a lookup with its output; work and squeeze; standing.
pub data Reply : Type 0 where
  plain : Answer → Reply
  looked : Looked → Reply
  worked : WorkAnswer → Reply
  stands : StandingAnswer → Reply

abbrev pub reply_no : Reply → ℕ
reply_no (plain a) = answer_no a
reply_no (looked l) = lookup_no l.answer
reply_no (worked a) = work_no a
reply_no (stands a) = standing_no a

-- "accepted (gave 0)"
abbrev pub accepted : Reply → Bool
accepted r = eqb (reply_no r) 0

-- A reply and the state afterwards.
pub record Ran (S : Type 0) : Type 0 where
  pub reply : Reply
  pub state : S

pub record Machine : Type 1 where
  pub State : Type 0
  pub run : Call → State → Ran State
  pub step : Kind → State → Step State
  -- the count that is stored
  pub stored : State → ℕ

-- ---- the index as a machine

abbrev pub settled : Index → Result → Ran Index
settled x (done y) = record { reply = plain (Ok tt); state = y }
settled x (refused r) = record { reply = plain (Err r); state = x }

abbrev pub worked_in : (budget : Bool) → Index → Worked Index → Ran Index
worked_in false x w = record { reply = worked (Err Refusal.Number); state = x }
worked_in true x w = record { reply = worked (Ok (work_of w.steps w.stop)); state = w.state }

-- "The budget is tested as for work"; the bucket after it
abbrev pub squeezed_in : (budget : Bool) → Option Refusal → Index → Worked Index → Ran Index
squeezed_in false t x w = record { reply = worked (Err Refusal.Number); state = x }
squeezed_in true (some r) x w = record { reply = worked (Err r); state = x }
squeezed_in true none x w = record { reply = worked (Ok (work_of w.steps w.stop)); state = w.state }

unfoldable pub run_index : Call → Index → Ran Index
run_index (formatting o) x = settled x (formatted x o)
run_index (inserting p) x = settled x (insert x p)
run_index (removing p) x = settled x (remove x p)
run_index (looking h out) x = record { reply = looked (lookup x h out); state = x }
run_index (working budget) x = worked_in (budget_ok budget) x (work budget x)
run_index (squeezing b budget) x = squeezed_in (budget_ok budget) (bucket_test x b) x (squeeze b budget x)
run_index asking x = record { reply = stands (Ok (standing x)); state = x }

abbrev pub step_index : Kind → Index → Step Index
step_index of_splits = step
step_index (of_squeeze b) = squeeze_step b

abbrev pub on_index : Machine
on_index = record { State = Index; run = run_index; step = step_index; stored = count }
