-- The 64-bit word that each call answers: its parts, and the word of each answer. The numbers of the cases
-- (docs/RULES.md 2.1) are definitions of crate `model`.
use Rattle.model.specs.declared.Listing.{Listing}
use Rattle.model.specs.declared.LentError.{LentError}
use Rattle.model.specs.declared.Place.{Place}
use Rattle.std.specs.Prelude.{ℕ, ◌+◌, ◌*◌, Ok, Err}
use Rattle.model.specs.declared.Refusal.{Refusal}
use Rattle.model.specs.Answers.{Answer, LookupAnswer, WorkAnswer, StandingAnswer, PlaceAnswer, PlanAnswer, refusal_no}
use Rattle.model.specs.Answers.{refusal_gives, answer_no, answer_gives, lookup_no, lookup_gives, stop_no, work_no}
use Rattle.model.specs.Answers.{work_gives, work_steps, work_stop, standing_no, standing_gives}
use Rattle.image.specs.declared.Verdict.{Verdict}
use Rattle.journal.specs.Planned.{plan_size}

-- bits 0..7 the table's "No", bits 8..15 the stop of work or squeeze, bits 16..31 its steps, bits 32..63 "Gives
-- besides"
abbrev pub packed : (number stop steps gives : ℕ) → ℕ
packed number stop steps gives = number + 256 * stop + 65536 * steps + 4294967296 * gives

abbrev pub refusal_word : Refusal → ℕ
refusal_word r = packed (refusal_no r) 0 0 (refusal_gives r)

-- format, insert, remove, in use, gauge, recover, wipe, wiped
abbrev pub answer_word : Answer → ℕ
answer_word a = packed (answer_no a) 0 0 (answer_gives a)

-- "Gives the number": a done lookup gives its number of matches
abbrev pub lookup_word : LookupAnswer → ℕ
lookup_word a = packed (lookup_no a) 0 0 (lookup_gives a)

-- work, squeeze: "gives their number and a stop"
abbrev pub work_word : WorkAnswer → ℕ
work_word a = packed (work_no a) (work_stop a) (work_steps a) (work_gives a)

abbrev pub standing_word : StandingAnswer → ℕ
standing_word a = packed (standing_no a) 0 0 (standing_gives a)

-- standing's result has less than 28 bytes: a number outside of every paper's table, and 28 besides
abbrev pub result_short : ℕ
result_short = 255

abbrev pub short_word : ℕ
short_word = packed result_short 0 0 28

-- a plan of less than eleven blocks gets the number of a short result, and their bytes besides
abbrev pub lent_word : LentError → ℕ
lent_word LentError.Short = packed result_short 0 0 plan_size
lent_word (LentError.Refused r) = refusal_word r

-- look and do store: bits 8..15 are 1 for a block of the journal and 0 for one of the store, bits 32..63 its number
abbrev pub place_word : PlaceAnswer → ℕ
place_word (Ok (Place.Journal block)) = packed 0 1 0 block
place_word (Ok (Place.Store block)) = packed 0 0 0 block
place_word (Err e) = lent_word e

-- the first half of a change: the number of its block stores; or a step's stop
abbrev pub plan_word : PlanAnswer → ℕ
plan_word (Ok (Listing.Stores stores)) = packed 0 0 0 stores
plan_word (Ok (Listing.Stopped s)) = packed 0 (stop_no s) 0 0
plan_word (Err e) = lent_word e

-- a verdict as the answer of a call that tests the store and does nothing
abbrev pub verdict_answer : Verdict → Answer
verdict_answer Verdict.BadLength = Err Refusal.Length
verdict_answer (Verdict.Damaged block) = Err (Refusal.Damaged block)
verdict_answer (Verdict.NotIndex rule) = Err (Refusal.NotIndex rule)
verdict_answer Verdict.Sound = Ok tt

abbrev pub verdict_word : Verdict → ℕ
verdict_word v = answer_word (verdict_answer v)
