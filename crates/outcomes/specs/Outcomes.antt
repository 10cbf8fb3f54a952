-- What each call does to a store: from bytes, numbers and output to answer, store and output. docs/RULES.md 2.2: "The
-- order is 1, 2, 3, 4, 8, 5 or 6, 7. Format tests 1, 2 and 12 only, in this order. Every refusal leaves store and
-- output untouched, but for work and squeeze (6.7, 6.13). Squeeze tests 1, 2 (the budget), 3, 4, 2 (the bucket), 11,
-- in this order."
use Rattle.std.specs.Prelude.{Bool, true, false, cond, not, ◌&&◌, List, ℕ, Ok, Err}
use Rattle.std.proofs.Math.Option.{Option, none, some}
use Rattle.lists.specs.Block.{blocks}
use Rattle.endian.specs.Endian.{u32_at}
use Rattle.page.specs.declared.Pair.{Pair}
use Rattle.model.specs.declared.Order.{Order}
use Rattle.model.specs.declared.Refusal.{Refusal}
use Rattle.model.specs.Answers.{Answer, WorkAnswer, StandingAnswer, work_of}
use Rattle.model.specs.Index.{Index}
use Rattle.model.specs.Steps.{Step, next, stopped, Worked, step, iterate}
use Rattle.model.specs.Squeeze.{squeeze_step, bucket_test}
use Rattle.model.specs.Calls.{Result, done, refused, format_ok, in_use, overwrites, pair_ok, budget_ok, format}
use Rattle.model.specs.Calls.{format_in, insert, remove, Looked, lookup, standing}
use Rattle.model.specs.Machine.{Call, formatting, inserting, removing, looking, working, squeezing, asking, Kind}
use Rattle.model.specs.Machine.{of_splits, of_squeeze, plain, looked, worked, stands, Ran, Machine}
use Rattle.image.specs.declared.Verdict.{Verdict}
use Rattle.image.specs.Layout.{encode}
use Rattle.image.specs.Decode.{decode}
use Rattle.image.specs.Rules.{length_ok, Judged, damaged, not_index, sound, verdict}

-- ---- the tests that stand before a call, in their order

-- The index to work on, or the refusal.
pub data Tested : Type 0 where
  passed : Index → Tested
  failed : Refusal → Tested

abbrev pub judged : Judged → Tested
judged (damaged k) = failed (Refusal.Damaged k)
judged (not_index r) = failed (Refusal.NotIndex r)
judged (sound x) = passed x

-- length, then the call's numbers, then the verdict
abbrev pub tested_in : (length numbers : Bool) → Judged → Tested
tested_in false n j = failed Refusal.Length
tested_in true false j = failed Refusal.Number
tested_in true true j = judged j

unfoldable pub tested : (numbers : Bool) → List ℕ → Tested
tested n s = tested_in (length_ok s) n (verdict s)

-- ---- verify

abbrev pub verdict_of : Judged → Verdict
verdict_of (damaged k) = Verdict.Damaged k
verdict_of (not_index r) = Verdict.NotIndex r
verdict_of (sound x) = Verdict.Sound

unfoldable pub verify_outcome : List ℕ → Verdict
verify_outcome s = cond (length_ok s) (verdict_of (verdict s)) Verdict.BadLength

-- ---- in use

-- "in use, if the store is sound and its count isn't 0"
abbrev pub in_use_on : Tested → Bool
in_use_on (failed r) = false
in_use_on (passed x) = in_use x

unfoldable pub store_in_use : List ℕ → Bool
store_in_use s = in_use_on (tested true s)

unfoldable pub in_use_outcome : List ℕ → Answer
in_use_outcome s =
    cond (length_ok s) (cond (store_in_use s) (Err Refusal.InUse) (Ok tt)) (Err Refusal.Length)

-- ---- format, insert, remove

-- An answer and the store afterwards.
pub record Changed : Type 0 where
  pub answer : Answer
  pub store : List ℕ

abbrev pub refusing : List ℕ → Refusal → Changed
refusing s r = record { answer = Err r; store = s }

abbrev pub changed : List ℕ → Result → Changed
changed s (done y) = record { answer = Ok tt; store = encode y }
changed s (refused r) = refusing s r

-- a format of `new`, which takes the place of `old`: 12 is tested of `old`
unfoldable pub format_replacing : (old new : List ℕ) → Order → Changed
format_replacing old new o =
    changed new
    (format_in (length_ok new) (format_ok o) (not (overwrites o) && store_in_use old) (format (blocks new) o))

unfoldable pub format_outcome : List ℕ → Order → Changed
format_outcome s o = format_replacing s s o

abbrev pub insert_on : Tested → List ℕ → Pair → Changed
insert_on (failed r) s p = refusing s r
insert_on (passed x) s p = changed s (insert x p)

unfoldable pub insert_outcome : List ℕ → Pair → Changed
insert_outcome s p = insert_on (tested (pair_ok p) s) s p

abbrev pub remove_on : Tested → List ℕ → Pair → Changed
remove_on (failed r) s p = refusing s r
remove_on (passed x) s p = changed s (remove x p)

unfoldable pub remove_outcome : List ℕ → Pair → Changed
remove_outcome s p = remove_on (tested (pair_ok p) s) s p

-- ---- lookup and standing

abbrev pub lookup_on : Tested → (hash : ℕ) → List ℕ → Looked
lookup_on (failed r) h out = record { answer = Err r; output = out }
lookup_on (passed x) h out = lookup x h out

unfoldable pub lookup_outcome : List ℕ → (hash : ℕ) → (output : List ℕ) → Looked
lookup_outcome s h out = lookup_on (tested true s) h out

abbrev pub standing_on : Tested → StandingAnswer
standing_on (failed r) = Err r
standing_on (passed x) = Ok (standing x)

unfoldable pub standing_outcome : List ℕ → StandingAnswer
standing_outcome s = standing_on (tested true s)

-- ---- steps and work

abbrev pub step_on : Step Index → Step (List ℕ)
step_on (next y) = next (encode y)
step_on (stopped r) = stopped r

-- one step of a sound store
unfoldable pub step_outcome : List ℕ → Step (List ℕ)
step_outcome s = step_on (step (decode s))

-- A work or squeeze call's answer and the store afterwards.
pub record WorkDone : Type 0 where
  pub answer : WorkAnswer
  pub store : List ℕ

abbrev pub work_on : Tested → List ℕ → Worked (List ℕ) → WorkDone
work_on (failed r) s w = record { answer = Err r; store = s }
work_on (passed x) s w = record { answer = Ok (work_of w.steps w.stop); store = w.state }

unfoldable pub work_outcome : List ℕ → (budget : ℕ) → WorkDone
work_outcome s budget = work_on (tested (budget_ok budget) s) s (iterate step_outcome budget s)

-- ---- squeeze

-- one step of a squeeze of a sound store
unfoldable pub squeeze_step_outcome : (bucket : ℕ) → List ℕ → Step (List ℕ)
squeeze_step_outcome b s = step_on (squeeze_step b (decode s))

abbrev pub unless_refused : Option Refusal → Index → Tested
unless_refused (some r) x = failed r
unless_refused none x = passed x

-- the tests of a squeeze's bucket come "After 4"
abbrev pub bucket_tested : Tested → (bucket : ℕ) → Tested
bucket_tested (failed r) b = failed r
bucket_tested (passed x) b = unless_refused (bucket_test x b) x

unfoldable pub squeeze_outcome : List ℕ → (bucket budget : ℕ) → WorkDone
squeeze_outcome s b budget =
    work_on (bucket_tested (tested (budget_ok budget) s) b) s (iterate (squeeze_step_outcome b) budget s)

-- ---- a store as a machine

unfoldable pub run_store : Call → List ℕ → Ran (List ℕ)
run_store (formatting o) s = let c = format_outcome s o in record { reply = plain c.answer; state = c.store }
run_store (inserting p) s = let c = insert_outcome s p in record { reply = plain c.answer; state = c.store }
run_store (removing p) s = let c = remove_outcome s p in record { reply = plain c.answer; state = c.store }
run_store (looking h out) s = record { reply = looked (lookup_outcome s h out); state = s }
run_store (working budget) s = let c = work_outcome s budget in record { reply = worked c.answer; state = c.store }
run_store (squeezing b budget) s =
    let c = squeeze_outcome s b budget in record { reply = worked c.answer; state = c.store }
run_store asking s = record { reply = stands (standing_outcome s); state = s }

abbrev pub step_store : Kind → List ℕ → Step (List ℕ)
step_store of_splits = step_outcome
step_store (of_squeeze b) = squeeze_step_outcome b

-- the stored count is the meta block's
abbrev pub on_store : Machine
on_store = record { State = List ℕ; run = run_store; step = step_store; stored = λ s. u32_at s 8 }
