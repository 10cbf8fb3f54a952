-- The numbers of the answers (docs/RULES.md 2.1), and what each case gives besides (0 where nothing).
use Rattle.std.specs.Prelude.{ℕ, pos, Result, Ok, Err}
use Rattle.model.specs.declared.Refusal.{Refusal}
use Rattle.model.specs.declared.Refusal.TheVariants.{Length, Number, Damaged, NotIndex, HeldAlready, NotHeld}
use Rattle.model.specs.declared.Refusal.TheVariants.{NoRoom, OutputShort, Busy, InUse, JournalLength}
use Rattle.model.specs.declared.Refusal.TheVariants.{Pending}
use Rattle.model.specs.declared.Stop.{Stop}
use Rattle.model.specs.declared.Work.{Work}
use Rattle.model.specs.declared.Phase.{Phase}
use Rattle.model.specs.declared.Standing.{Standing}
use Rattle.model.specs.declared.LentError.{LentError}
use Rattle.model.specs.declared.Place.{Place}
use Rattle.model.specs.declared.Listing.{Listing}

-- ---- the answers, as the code has them

abbrev pub Answer : Type 0
Answer = Result (Unit {0}) Refusal

abbrev pub LookupAnswer : Type 0
LookupAnswer = Result ℕ Refusal

abbrev pub WorkAnswer : Type 0
WorkAnswer = Result Work Refusal

abbrev pub work_of : (steps : ℕ) → Stop → Work
work_of steps stop = record { steps = steps; stop = stop }

abbrev pub StandingAnswer : Type 0
StandingAnswer = Result Standing Refusal

abbrev pub PlaceAnswer : Type 0
PlaceAnswer = Result Place LentError

abbrev pub PlanAnswer : Type 0
PlanAnswer = Result Listing LentError

-- ---- their numbers

-- the table "When the index says no"
abbrev pub refusal_no : Refusal → ℕ
refusal_no Length = 1
refusal_no Number = 2
refusal_no (Damaged block) = 3
refusal_no (NotIndex rule) = 4
refusal_no HeldAlready = 5
refusal_no NotHeld = 6
refusal_no NoRoom = 7
refusal_no (OutputShort matches) = 8
refusal_no Busy = 11
refusal_no InUse = 12
refusal_no JournalLength = 13
refusal_no Pending = 14

-- its column "Gives besides"
abbrev pub refusal_gives : Refusal → ℕ
refusal_gives Length = 0
refusal_gives Number = 0
refusal_gives (Damaged block) = block
refusal_gives (NotIndex rule) = rule
refusal_gives HeldAlready = 0
refusal_gives NotHeld = 0
refusal_gives NoRoom = 0
refusal_gives (OutputShort matches) = matches
refusal_gives Busy = 0
refusal_gives InUse = 0
refusal_gives JournalLength = 0
refusal_gives Pending = 0

abbrev pub answer_no : Answer → ℕ
answer_no (Ok done) = 0
answer_no (Err r) = refusal_no r

abbrev pub answer_gives : Answer → ℕ
answer_gives (Ok done) = 0
answer_gives (Err r) = refusal_gives r

abbrev pub lookup_no : LookupAnswer → ℕ
lookup_no (Ok matches) = 0
lookup_no (Err r) = refusal_no r

-- the number of matches, also of an output that is short
abbrev pub lookup_gives : LookupAnswer → ℕ
lookup_gives (Ok matches) = matches
lookup_gives (Err r) = refusal_gives r

-- "a stop: 0 when the budget is spent (tested first), 9, or 7"
abbrev pub stop_no : Stop → ℕ
stop_no Stop.Spent = 0
stop_no Stop.Idle = 9
stop_no Stop.NoRoom = 7

abbrev pub work_no : WorkAnswer → ℕ
work_no (Ok w) = 0
work_no (Err r) = refusal_no r

abbrev pub work_gives : WorkAnswer → ℕ
work_gives (Ok w) = 0
work_gives (Err r) = refusal_gives r

abbrev pub work_steps : WorkAnswer → ℕ
work_steps (Ok w) = w.steps
work_steps (Err r) = 0

abbrev pub work_stop : WorkAnswer → ℕ
work_stop (Ok w) = stop_no w.stop
work_stop (Err r) = 0

-- 0 none, 1 copying, 2 clearing; the two bucket numbers, 0 without a job
abbrev pub phase_no : Phase → ℕ
phase_no Phase.None = 0
phase_no (Phase.Copying old new) = 1
phase_no (Phase.Clearing old new) = 2

abbrev pub phase_old : Phase → ℕ
phase_old Phase.None = 0
phase_old (Phase.Copying old new) = old
phase_old (Phase.Clearing old new) = old

abbrev pub phase_new : Phase → ℕ
phase_new Phase.None = 0
phase_new (Phase.Copying old new) = new
phase_new (Phase.Clearing old new) = new

abbrev pub standing_no : StandingAnswer → ℕ
standing_no (Ok s) = 0
standing_no (Err r) = refusal_no r

abbrev pub standing_gives : StandingAnswer → ℕ
standing_gives (Ok s) = 0
standing_gives (Err r) = refusal_gives r

-- what stands, and of a refusal "0, phase none"
abbrev pub standing_of : StandingAnswer → Standing
standing_of (Ok s) = s
standing_of (Err r) = record { count = 0; buckets = 0; phase = Phase.None; slack = pos 0 }
