-- A word is taken apart as include/amiqsovik.h does it, and gives back what it was made of.
use Rattle.model.specs.declared.Listing.{Listing}
use Rattle.model.specs.declared.LentError.{LentError}
use Rattle.model.specs.declared.Place.{Place}
use Rattle.std.specs.Prelude.{◌≡◌, refl, Bool, true, false, List, ℕ, ◌/◌, ◌%◌, ◌≤◌, ◌<◌, ltb, length, Ok, Err}
use Rattle.std.proofs.Common.{arith, lt-ltb, le-ltb, ltb-true, ltb-false}
use Rattle.model.specs.declared.Refusal.{Refusal}
use Rattle.model.specs.declared.Refusal.TheVariants.{Length, Number, Damaged, NotIndex}
use Rattle.model.specs.declared.Refusal.TheVariants.{HeldAlready, NotHeld, NoRoom, OutputShort, Busy, InUse}
use Rattle.model.specs.declared.Refusal.TheVariants.{JournalLength, Pending}
use Rattle.model.specs.Answers.{Answer, LookupAnswer, WorkAnswer, StandingAnswer, PlaceAnswer, PlanAnswer, refusal_no}
use Rattle.model.specs.Answers.{refusal_gives, answer_no, answer_gives, lookup_no, lookup_gives, stop_no, work_no}
use Rattle.model.specs.Answers.{work_gives, work_steps, work_stop, standing_no, standing_gives}
use Rattle.model.specs.declared.Stop.{Stop}
use Rattle.outcomes.specs.Outcomes.{standing_outcome}
use Rattle.journal.specs.Journal.{Disk}
use Rattle.journal.specs.Planned.{plan_size}
use Rattle.cuts.specs.Journalled.{work_journalled, squeeze_journalled}
use Rattle.amiqsovik.specs.Words.{packed, refusal_word, answer_word, lookup_word, work_word, standing_word}
use Rattle.amiqsovik.specs.Words.{place_word, plan_word, result_short}
use Rattle.amiqsovik.specs.Result.{standing_told}
use Rattle.amiqsovik.specs.StepsLaws.{work-steps, squeeze-steps}

-- the four parts of a word
pub record Parts (word number stop steps gives : ℕ) : Type 0 where
  pub numbered : word % 256 ≡ number
  pub stopped : word / 256 % 256 ≡ stop
  pub counted : word / 65536 % 65536 ≡ steps
  pub besides : word / 4294967296 ≡ gives

pub packed-parts : (number stop steps gives : ℕ) → number ≤ 255 → stop ≤ 255 → steps ≤ 65535
    → Parts (packed number stop steps gives) number stop steps gives
packed-parts number stop steps gives n t s =
    record { numbered = omega arith; stopped = omega arith; counted = omega arith; besides = omega arith }

-- no refusal of a paper has the number of a short result
pub refusal-small : (r : Refusal) → refusal_no r < result_short
refusal-small Length = omega arith
refusal-small Number = omega arith
refusal-small (Damaged block) = omega arith
refusal-small (NotIndex rule) = omega arith
refusal-small HeldAlready = omega arith
refusal-small NotHeld = omega arith
refusal-small NoRoom = omega arith
refusal-small (OutputShort matches) = omega arith
refusal-small Busy = omega arith
refusal-small InUse = omega arith
refusal-small JournalLength = omega arith
refusal-small Pending = omega arith

pub stop-small : (s : Stop) → stop_no s ≤ 255
stop-small Stop.Spent = omega arith
stop-small Stop.Idle = omega arith
stop-small Stop.NoRoom = omega arith

-- a word without steps
plain : (number gives : ℕ) → number ≤ 255 → Parts (packed number 0 0 gives) number 0 0 gives
plain number gives h = packed-parts number 0 0 gives h (omega arith) (omega arith)

refusal-parts : (r : Refusal) → Parts (refusal_word r) (refusal_no r) 0 0 (refusal_gives r)
refusal-parts r = plain (refusal_no r) (refusal_gives r) (omega (arith, refusal-small r))

pub answer-parts : (a : Answer) → Parts (answer_word a) (answer_no a) 0 0 (answer_gives a)
answer-parts (Ok done) = plain 0 0 (omega arith)
answer-parts (Err r) = refusal-parts r

pub lookup-parts : (a : LookupAnswer) → Parts (lookup_word a) (lookup_no a) 0 0 (lookup_gives a)
lookup-parts (Ok matches) = plain 0 matches (omega arith)
lookup-parts (Err r) = refusal-parts r

pub standing-parts : (a : StandingAnswer) → Parts (standing_word a) (standing_no a) 0 0 (standing_gives a)
standing-parts (Ok s) = plain 0 0 (omega arith)
standing-parts (Err r) = refusal-parts r

standing-small : (a : StandingAnswer) → standing_no a < result_short
standing-small (Ok s) = omega arith
standing-small (Err r) = refusal-small r

work-answer-parts : (a : WorkAnswer) → work_steps a ≤ 65535
    → Parts (work_word a) (work_no a) (work_stop a) (work_steps a) (work_gives a)
work-answer-parts (Ok w) h = packed-parts 0 (stop_no w.stop) w.steps 0 (omega arith) (stop-small w.stop) h
work-answer-parts (Err r) h = refusal-parts r

-- the word of a work call
pub work-parts : (d : Disk) (budget : ℕ)
    → (let a = (work_journalled d budget).answer in
    Parts (work_word a) (work_no a) (work_stop a) (work_steps a) (work_gives a))
work-parts d budget = work-answer-parts (work_journalled d budget).answer (work-steps d budget)

-- the word of a squeeze
pub squeeze-parts : (d : Disk) (b budget : ℕ)
    → (let a = (squeeze_journalled d b budget).answer in
    Parts (work_word a) (work_no a) (work_stop a) (work_steps a) (work_gives a))
squeeze-parts d b budget = work-answer-parts (squeeze_journalled d b budget).answer (squeeze-steps d b budget)

-- the word of a look and of a block store: a refusal, a short plan, or in which of the two and which block
abbrev pub PlaceParts : PlaceAnswer → Type 0
PlaceParts (Ok (Place.Journal block)) = Parts (place_word (Ok (Place.Journal block))) 0 1 0 block
PlaceParts (Ok (Place.Store block)) = Parts (place_word (Ok (Place.Store block))) 0 0 0 block
PlaceParts (Err LentError.Short) = Parts (place_word (Err LentError.Short)) result_short 0 0 plan_size
PlaceParts (Err (LentError.Refused r)) =
    Parts (place_word (Err (LentError.Refused r))) (refusal_no r) 0 0 (refusal_gives r)

pub place-parts : (a : PlaceAnswer) → PlaceParts a
place-parts (Ok (Place.Journal block)) = packed-parts 0 1 0 block (omega arith) (omega arith) (omega arith)
place-parts (Ok (Place.Store block)) = plain 0 block (omega arith)
place-parts (Err LentError.Short) = plain result_short plan_size (omega arith)
place-parts (Err (LentError.Refused r)) = refusal-parts r

-- the word of a plan: a refusal, a short plan, a stop, or the number of its block stores
abbrev pub PlanParts : PlanAnswer → Type 0
PlanParts (Ok (Listing.Stores stores)) = Parts (plan_word (Ok (Listing.Stores stores))) 0 0 0 stores
PlanParts (Ok (Listing.Stopped s)) = Parts (plan_word (Ok (Listing.Stopped s))) 0 (stop_no s) 0 0
PlanParts (Err LentError.Short) = Parts (plan_word (Err LentError.Short)) result_short 0 0 plan_size
PlanParts (Err (LentError.Refused r)) =
    Parts (plan_word (Err (LentError.Refused r))) (refusal_no r) 0 0 (refusal_gives r)

pub plan-parts : (a : PlanAnswer) → PlanParts a
plan-parts (Ok (Listing.Stores stores)) = plain 0 stores (omega arith)
plan-parts (Ok (Listing.Stopped s)) = packed-parts 0 (stop_no s) 0 0 (omega arith) (stop-small s) (omega arith)
plan-parts (Err LentError.Short) = plain result_short plan_size (omega arith)
plan-parts (Err (LentError.Refused r)) = refusal-parts r

-- the word of a standing: 255 with 28 besides exactly when the result is short
module _ (s out : List ℕ) where
  pub told-parts : 28 ≤ length out
      → (let a = standing_outcome s in Parts (standing_told s out).word (standing_no a) 0 0 (standing_gives a))
  unfolding standing_told
  told-parts h = rw (le-ltb (length out) 28 h) (standing-parts (standing_outcome s))

  pub short-parts : length out < 28 → Parts (standing_told s out).word result_short 0 0 28
  unfolding standing_told
  short-parts h = rw (lt-ltb (length out) 28 h) (plain result_short 28 (omega arith))

  pub short-only : (standing_told s out).word % 256 ≡ result_short → length out < 28
  short-only e = go (ltb (length out) 28) refl
    where
      go : (short : Bool) → ltb (length out) 28 ≡ short → length out < 28
      go true h = ltb-true (length out) 28 h
      go false h =
          absurd (omega (
            arith,
            (told-parts (ltb-false (length out) 28 h)).numbered,
            standing-small (standing_outcome s),
          ))
