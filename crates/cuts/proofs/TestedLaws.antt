-- The tests of a call that changes a store, with its journal: those of the store alone where the head is wiped, and a
-- refusal where it is not.
use Rattle.std.specs.Prelude.{◌≡◌, refl, Bool, true, false, List, ℕ, length}
use Rattle.std.proofs.Common.{sym, ap, ◌∙◌, eqb-true, eq-eqb}
use Rattle.model.specs.declared.Refusal.{Refusal}
use Rattle.model.specs.Index.{Index}
use Rattle.model.specs.Steps.{iterate}
use Rattle.model.specs.Calls.{insert, remove}
use Rattle.model.specs.Machine.{Call, formatting, inserting, removing, looking, working, squeezing, asking}
use Rattle.model.specs.Machine.{of_splits, of_squeeze, plain, worked, Ran}
use Rattle.model.specs.Book.{effect}
use Rattle.model.proofs.MachineLaws.{never}
use Rattle.image.specs.Rules.{length_ok}
use Rattle.outcomes.specs.Outcomes.{Tested, passed, failed, tested, bucket_tested, run_store}
use Rattle.outcomes.specs.Refusals.{call_numbers_ok, refused_as}
use Rattle.outcomes.proofs.OutcomeLaws.{tested-length, tested-number, refusal-leaves}
use Rattle.journal.specs.Journal.{Disk, sixteen, head_wiped}
use Rattle.journal.specs.Cut.{Ready}
use Rattle.journal.proofs.ValidLaws.{head_wiped-yes, head_wiped-eq}
use Rattle.cuts.specs.Journalled.{tested_in, tested_with, change_on, insert_journalled, remove_journalled}
use Rattle.cuts.specs.Journalled.{step_journalled, work_on, work_journalled, squeeze_journalled, run_disk}
use Rattle.cuts.specs.Events.{Kept}

-- with the head wiped the journal's tests pass, and those of the store are left
pub tested-ready : (n : Bool) {d : Disk} → Ready d → tested_with n d ≡ tested n d.store
unfolding tested_with
tested-ready n {d} r =
    ap (λ (b : Bool). tested_in (length_ok s) b n (head_wiped d.journal) (tested n s))
    (eq-eqb (length d.journal) 8192 r.sixteen)
    ∙ ap (λ (b : Bool). tested_in (length_ok s) true n b (tested n s)) (head_wiped-yes d.journal r.clean)
    ∙ go (length_ok s) n refl
  where
    s : List ℕ
    s = d.store

    go : (l n : Bool) → length_ok s ≡ l → tested_in l true n true (tested n s) ≡ tested n s
    go false n e = sym (tested-length s n e)
    go true false e = sym (tested-number s e)
    go true true e = refl

-- and where all tests pass, it is
pub record Passed (n : Bool) (d : Disk) (x : Index) : Type 0 where
  pub ready : Ready d
  pub passes : tested n d.store ≡ passed x

pub passed-ready : (n : Bool) (d : Disk) (x : Index) → tested_with n d ≡ passed x → Passed n d x
unfolding tested_with
passed-ready n d x e = go (length_ok d.store) (sixteen d.journal) n (head_wiped d.journal) refl refl e
  where
    go : (l j m w : Bool) → sixteen d.journal ≡ j → head_wiped d.journal ≡ w
        → tested_in l j m w (tested n d.store) ≡ passed x → Passed n d x
    go false j m w p q e = never (cc)
    go true false m w p q e = never (cc)
    go true true false w p q e = never (cc)
    go true true true false p q e = never (cc)
    go true true true true p q e =
        record {
          ready =
              record { sixteen = eqb-true (length d.journal) 8192 p; clean = head_wiped-eq d.journal q };
          passes = e;
        }

-- ---- a call whose tests fail

-- the calls with a journal
abbrev pub Journals : Call → Type 0
Journals (formatting o) = ⊥
Journals (inserting p) = Unit {0}
Journals (removing p) = Unit {0}
Journals (looking h out) = ⊥
Journals (working budget) = Unit {0}
Journals (squeezing b budget) = Unit {0}
Journals asking = ⊥

-- the refusal, and store and journal as they were
pub disk-fails : (c : Call) → Journals c → (d : Disk) (r : Refusal)
    → tested_with (call_numbers_ok (effect c)) d ≡ failed r → run_disk c d ≡ record { reply = refused_as c r; state = d }
unfolding run_disk insert_journalled remove_journalled work_journalled squeeze_journalled
disk-fails (inserting p) t d r e =
    ap (λ (a : Tested). let c = change_on a (λ x. insert x p) d in
    record { reply = plain c.answer; state = c.disk }) e
disk-fails (removing p) t d r e =
    ap (λ (a : Tested). let c = change_on a (λ x. remove x p) d in
    record { reply = plain c.answer; state = c.disk }) e
disk-fails (working budget) t d r e =
    ap (λ (a : Tested). let c = work_on a d (iterate (step_journalled of_splits) budget d) in
    record { reply = worked c.answer; state = c.disk }) e
disk-fails (squeezing b budget) t d r e =
    ap (λ (a : Tested). let c = work_on (bucket_tested a b) d (iterate (step_journalled (of_squeeze b)) budget d) in
    record { reply = worked c.answer; state = c.disk }) e
disk-fails (formatting order) t d r e = elim t [ ]
disk-fails (looking hash output) t d r e = elim t [ ]
disk-fails asking t d r e = elim t [ ]

-- ---- the head not wiped

-- the refusals that are tested first: 1, 13, 2, and then 14
abbrev pub waiting : (length sixteen numbers : Bool) → Refusal
waiting false j n = Refusal.Length
waiting true false n = Refusal.JournalLength
waiting true true false = Refusal.Number
waiting true true true = Refusal.Pending

tested-waits : (n : Bool) (d : Disk) → head_wiped d.journal ≡ false
    → tested_with n d ≡ failed (waiting (length_ok d.store) (sixteen d.journal) n)
unfolding tested_with
tested-waits n d e =
    ap (λ (b : Bool). tested_in (length_ok d.store) (sixteen d.journal) n b (tested n d.store)) e
    ∙ go (length_ok d.store) (sixteen d.journal) n
  where
    go : (l j m : Bool) → tested_in l j m false (tested n d.store) ≡ failed (waiting l j m)
    go false j m = refl
    go true false m = refl
    go true true false = refl
    go true true true = refl

-- each of them is refused, and leaves store and journal
pub run-waits : (c : Call) → Journals c → (d : Disk) → head_wiped d.journal ≡ false
    → let r = waiting (length_ok d.store) (sixteen d.journal) (call_numbers_ok (effect c)) in
    run_disk c d ≡ record { reply = refused_as c r; state = d }
run-waits c t d e =
    disk-fails c t d (waiting (length_ok d.store) (sixteen d.journal) (call_numbers_ok (effect c)))
    (tested-waits (call_numbers_ok (effect c)) d e)

-- so every call but an accepted format leaves them
pub waits-leave : (c : Call) (d : Disk) → head_wiped d.journal ≡ false → Kept c d → (run_disk c d).state ≡ d
unfolding run_disk run_store
waits-leave (formatting o) d e k =
    ap (λ (s : List ℕ). record { store = s; journal = d.journal }) (refusal-leaves (formatting o) d.store k)
waits-leave (inserting p) d e k = ap (λ (a : Ran Disk). a.state) (run-waits (inserting p) tt d e)
waits-leave (removing p) d e k = ap (λ (a : Ran Disk). a.state) (run-waits (removing p) tt d e)
waits-leave (looking h out) d e k = refl
waits-leave (working budget) d e k = ap (λ (a : Ran Disk). a.state) (run-waits (working budget) tt d e)
waits-leave (squeezing b budget) d e k = ap (λ (a : Ran Disk). a.state) (run-waits (squeezing b budget) tt d e)
waits-leave asking d e k = refl
