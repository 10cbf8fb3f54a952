-- A change in two halves, for a host that flushes between block stores: the list of block stores worked out into a lent
-- buffer, and its n-th one done. docs/RULES.md 11.9.
use Rattle.model.specs.declared.Listing.{Listing}
use Rattle.model.specs.declared.LentError.{LentError}
use Rattle.model.specs.declared.Place.{Place}
use Rattle.std.specs.Prelude.{Bool, true, false, cond, ◌&&◌, List, ℕ, ◌+◌, ◌*◌, leb, ltb, length, Ok, Err}
use Rattle.lists.specs.Block.{blocks}
use Rattle.store.specs.Store.{number_at}
use Rattle.page.specs.declared.Pair.{Pair}
use Rattle.model.specs.declared.Refusal.{Refusal}
use Rattle.model.specs.Answers.{PlaceAnswer, PlanAnswer}
use Rattle.model.specs.Index.{Index}
use Rattle.model.specs.Steps.{Step, next, stopped}
use Rattle.model.specs.Calls.{Result, done, refused, pair_ok, insert, remove}
use Rattle.model.specs.Machine.{Kind, of_splits, of_squeeze}
use Rattle.image.specs.Layout.{encode}
use Rattle.image.specs.Rules.{length_ok}
use Rattle.outcomes.specs.Outcomes.{Tested, passed, failed, bucket_tested, step_store}
use Rattle.journal.specs.Journal.{Disk, BlockStore, image, mark, page, do_store, sixteen}
use Rattle.journal.specs.Altered.{change_stores}
use Rattle.journal.specs.Planned.{plan_size, plan_to, plan_over, plan_count, plan_store}
use Rattle.cuts.specs.Journalled.{tested_with}

-- ---- the first half: store and journal stay

-- An answer, and the lent buffer afterwards.
pub record Planned : Type 0 where
  pub answer : PlanAnswer
  pub plan : List ℕ

abbrev pub answering : (buffer : List ℕ) → PlanAnswer → Planned
answering b a = record { answer = a; plan = b }

-- the change of the store to t
abbrev pub planned_to : Disk → (buffer t : List ℕ) → Planned
planned_to d b t =
    record {
      answer = Ok (Listing.Stores (length (change_stores d t)));
      plan = plan_over (plan_to (number_at d.store) d.store t) b;
    }

abbrev pub planned_as : Disk → (buffer : List ℕ) → Result → Planned
planned_as d b (done y) = planned_to d b (encode y)
planned_as d b (refused r) = answering b (Err (LentError.Refused r))

abbrev pub plan_change : Tested → (change : Index → Result) → Disk → (buffer : List ℕ) → Planned
plan_change (failed r) f d b = answering b (Err (LentError.Refused r))
plan_change (passed x) f d b = planned_as d b (f x)

abbrev pub planned_step : Disk → (buffer : List ℕ) → Step (List ℕ) → Planned
planned_step d b (next t) = planned_to d b t
planned_step d b (stopped r) = answering b (Ok (Listing.Stopped r))

abbrev pub plan_step : Tested → Kind → Disk → (buffer : List ℕ) → Planned
plan_step (failed r) k d b = answering b (Err (LentError.Refused r))
plan_step (passed x) k d b = planned_step d b (step_store k d.store)

-- a buffer of less than eleven blocks is refused before anything is looked at
abbrev pub unless_short : (buffer : List ℕ) → Planned → Planned
unless_short b p = cond (leb plan_size (length b)) p (answering b (Err LentError.Short))

unfoldable pub plan_insert : Disk → Pair → (buffer : List ℕ) → Planned
plan_insert d p b = unless_short b (plan_change (tested_with (pair_ok p) d) (λ x. insert x p) d b)

unfoldable pub plan_remove : Disk → Pair → (buffer : List ℕ) → Planned
plan_remove d p b = unless_short b (plan_change (tested_with (pair_ok p) d) (λ x. remove x p) d b)

-- one step, as with a budget of 1
unfoldable pub plan_work : Disk → (buffer : List ℕ) → Planned
plan_work d b = unless_short b (plan_step (tested_with true d) of_splits d b)

unfoldable pub plan_squeeze : Disk → (bucket : ℕ) → (buffer : List ℕ) → Planned
plan_squeeze d k b = unless_short b (plan_step (bucket_tested (tested_with true d) k) (of_squeeze k) d b)

-- ---- the second half: the n-th block store of a plan

-- An answer, and store and journal afterwards.
pub record Stored : Type 0 where
  pub answer : PlaceAnswer
  pub disk : Disk

-- where a block store writes
abbrev pub place_of : BlockStore → Place
place_of (image at b) = Place.Journal at
place_of (mark at b) = Place.Journal at
place_of (page k b) = Place.Store k

-- a block of the store is below N
abbrev pub place_ok : BlockStore → (size : ℕ) → Bool
place_ok (image at b) n = true
place_ok (mark at b) n = true
place_ok (page k b) n = ltb k n

-- a plan of 1 to 8 images has the n-th block store, and it writes inside of the store
abbrev pub store_ok : Disk → (plan : List ℕ) → (n : ℕ) → Bool
store_ok d p n =
    leb 1 (plan_count p)
    && (leb (plan_count p) 8 && (ltb n (2 * plan_count p + 3) && place_ok (plan_store p n) (blocks d.store)))

abbrev pub store_in : (long length sixteen ok : Bool) → Disk → (plan : List ℕ) → (n : ℕ) → Stored
store_in false l j o d p n = record { answer = Err LentError.Short; disk = d }
store_in true false j o d p n = record { answer = Err (LentError.Refused Refusal.Length); disk = d }
store_in true true false o d p n = record { answer = Err (LentError.Refused Refusal.JournalLength); disk = d }
store_in true true true false d p n = record { answer = Err (LentError.Refused Refusal.Number); disk = d }
store_in true true true true d p n = record { answer = Ok (place_of (plan_store p n)); disk = do_store (plan_store p n) d }

unfoldable pub store_outcome : Disk → (plan : List ℕ) → (n : ℕ) → Stored
store_outcome d p n =
    store_in (leb plan_size (length p)) (length_ok d.store) (sixteen d.journal) (store_ok d p n) d p n
