-- What the calls that change a store do to it and its journal, and the calls on a journal. docs/RULES.md 11.2: "A
-- journal of another length gets 13, right after 1; an insert, remove, work or squeeze while the head isn't wiped gets
-- 14, pending, just before 3, whether or not it would change anything."
use Rattle.model.specs.declared.LentError.{LentError}
use Rattle.model.specs.declared.Place.{Place}
use Rattle.std.specs.Prelude.{Bool, true, false, cond, List, [], ℕ, suc, ltb, Ok, Err}
use Rattle.std.proofs.Math.Option.{Option, none, some}
use Rattle.lists.specs.Block.{blocks, set_block}
use Rattle.page.specs.declared.Pair.{Pair}
use Rattle.model.specs.declared.Refusal.{Refusal}
use Rattle.model.specs.Answers.{Answer, WorkAnswer, PlaceAnswer, work_of}
use Rattle.model.specs.Index.{Index}
use Rattle.model.specs.Steps.{Step, next, stopped, Worked, iterate}
use Rattle.model.specs.Calls.{Result, done, refused, pair_ok, budget_ok, insert, remove}
use Rattle.model.specs.Machine.{Call, formatting, inserting, removing, looking, working, squeezing, asking, Kind}
use Rattle.model.specs.Machine.{of_splits, of_squeeze, plain, looked, worked, stands, Ran}
use Rattle.image.specs.Layout.{encode}
use Rattle.image.specs.Rules.{length_ok}
use Rattle.outcomes.specs.Outcomes.{Tested, passed, failed, tested, bucket_tested, format_outcome, lookup_outcome}
use Rattle.outcomes.specs.Outcomes.{standing_outcome, step_store}
use Rattle.journal.specs.Journal.{Disk, sixteen, head_wiped, wiped, holds, recover, image_for, look}
use Rattle.journal.specs.Altered.{written}

-- ---- the tests: 1, 13, 2, 14, and then those of the store, 3 and 4

abbrev pub tested_in : (length sixteen numbers wiped : Bool) → Tested → Tested
tested_in false j n w t = failed Refusal.Length
tested_in true false n w t = failed Refusal.JournalLength
tested_in true true false w t = failed Refusal.Number
tested_in true true true false t = failed Refusal.Pending
tested_in true true true true t = t

unfoldable pub tested_with : (numbers : Bool) → Disk → Tested
tested_with n d = tested_in (length_ok d.store) (sixteen d.journal) n (head_wiped d.journal) (tested n d.store)

-- ---- insert, remove

-- An answer, and store and journal afterwards.
pub record Journalled : Type 0 where
  pub answer : Answer
  pub disk : Disk

-- an accepted change is written as the list of its block stores
abbrev pub journalled : Disk → Result → Journalled
journalled d (done y) = record { answer = Ok tt; disk = written d (encode y) }
journalled d (refused r) = record { answer = Err r; disk = d }

abbrev pub change_on : Tested → (change : Index → Result) → Disk → Journalled
change_on (failed r) f d = record { answer = Err r; disk = d }
change_on (passed x) f d = journalled d (f x)

unfoldable pub insert_journalled : Disk → Pair → Journalled
insert_journalled d p = change_on (tested_with (pair_ok p) d) (λ x. insert x p) d

unfoldable pub remove_journalled : Disk → Pair → Journalled
remove_journalled d p = change_on (tested_with (pair_ok p) d) (λ x. remove x p) d

-- ---- work, squeeze: each step is a change with a list of its own

abbrev pub step_to : Disk → Step (List ℕ) → Step Disk
step_to d (next t) = next (written d t)
step_to d (stopped r) = stopped r

unfoldable pub step_journalled : Kind → Disk → Step Disk
step_journalled k d = step_to d (step_store k d.store)

pub record WorkJournalled : Type 0 where
  pub answer : WorkAnswer
  pub disk : Disk

abbrev pub worked_by : Worked Disk → WorkJournalled
worked_by w = record { answer = Ok (work_of w.steps w.stop); disk = w.state }

abbrev pub work_on : Tested → Disk → Worked Disk → WorkJournalled
work_on (failed r) d w = record { answer = Err r; disk = d }
work_on (passed x) d w = worked_by w

-- 14 is tested once, before the first step
unfoldable pub work_journalled : Disk → (budget : ℕ) → WorkJournalled
work_journalled d budget = work_on (tested_with (budget_ok budget) d) d (iterate (step_journalled of_splits) budget d)

unfoldable pub squeeze_journalled : Disk → (bucket budget : ℕ) → WorkJournalled
squeeze_journalled d b budget =
    work_on (bucket_tested (tested_with (budget_ok budget) d) b) d (iterate (step_journalled (of_squeeze b)) budget d)

-- ---- recover, wipe, look, whether the head is wiped

-- "Recovery tests 1 and 13 only"
unfoldable pub recover_outcome : Disk → Journalled
recover_outcome d =
    cond (length_ok d.store)
    (cond (sixteen d.journal) (record { answer = Ok tt; disk = recover d })
    (record { answer = Err Refusal.JournalLength; disk = d }))
    (record { answer = Err Refusal.Length; disk = d })

-- An answer, and the journal afterwards.
pub record Wiped : Type 0 where
  pub answer : Answer
  pub journal : List ℕ

-- "A call of its own wipes a new journal's head": any head
unfoldable pub wipe_outcome : (journal : List ℕ) → Wiped
wipe_outcome j =
    cond (sixteen j) (record { answer = Ok tt; journal = set_block j 0 wiped })
    (record { answer = Err Refusal.JournalLength; journal = j })

unfoldable pub wiped_outcome : (journal : List ℕ) → Answer
wiped_outcome j =
    cond (sixteen j) (cond (head_wiped j) (Ok tt) (Err Refusal.Pending))
    (Err Refusal.JournalLength)

-- where look's part lies: image i is block 1 + i of the journal
abbrev pub look_place : Option ℕ → (k : ℕ) → PlaceAnswer
look_place (some i) k = Ok (Place.Journal (suc i))
look_place none k = Ok (Place.Store k)

-- "a number not below N gets 2"
abbrev pub look_in : {A : Type 0} → (length sixteen below : Bool) → (Refusal → A) → A → A
look_in false j b refuse found = refuse Refusal.Length
look_in true false b refuse found = refuse Refusal.JournalLength
look_in true true false refuse found = refuse Refusal.Number
look_in true true true refuse found = found

unfoldable pub look_outcome : Disk → (k : ℕ) → PlaceAnswer
look_outcome d k =
    look_in (length_ok d.store) (sixteen d.journal) (ltb k (blocks d.store)) (λ r. Err (LentError.Refused r))
    (look_place (image_for (holds d) d.journal k) k)

-- the part itself; a refused look has none
unfoldable pub look_part : Disk → (k : ℕ) → List ℕ
look_part d k =
    look_in (length_ok d.store) (sixteen d.journal) (ltb k (blocks d.store)) (λ r. []) (look d k)

-- ---- a store with its journal as a machine

unfoldable pub run_disk : Call → Disk → Ran Disk
run_disk (formatting o) d =
    let c = format_outcome d.store o in
    record { reply = plain c.answer; state = record { store = c.store; journal = d.journal } }
run_disk (inserting p) d = let c = insert_journalled d p in record { reply = plain c.answer; state = c.disk }
run_disk (removing p) d = let c = remove_journalled d p in record { reply = plain c.answer; state = c.disk }
run_disk (looking h out) d = record { reply = looked (lookup_outcome d.store h out); state = d }
run_disk (working budget) d =
    let c = work_journalled d budget in record { reply = worked c.answer; state = c.disk }
run_disk (squeezing b budget) d =
    let c = squeeze_journalled d b budget in record { reply = worked c.answer; state = c.disk }
run_disk asking d = record { reply = stands (standing_outcome d.store); state = d }
