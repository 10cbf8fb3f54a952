-- A call made with the head wiped answers as it does without a journal, leaves the store that it leaves there, and
-- leaves the head wiped.
use Rattle.std.specs.Prelude.{◌≡◌, refl, List, ℕ, Ok}
use Rattle.std.proofs.Common.{sym, ◌∙◌, subst}
use Rattle.lists.specs.Bytes.{Bytes}
use Rattle.model.specs.Answers.{work_of}
use Rattle.model.specs.Index.{Index}
use Rattle.model.specs.Steps.{Step, next, stopped, iterate}
use Rattle.model.specs.Calls.{Result, done, refused, pair_ok, budget_ok, insert, remove}
use Rattle.model.specs.Machine.{Call, formatting, inserting, removing, looking, working, squeezing, asking, CallFits}
use Rattle.model.specs.Machine.{Kind, of_splits, of_squeeze, plain, worked, Ran, step_index}
use Rattle.model.specs.Book.{effect}
use Rattle.model.proofs.SimulationLaws.{Alike, iterate-alike}
use Rattle.image.specs.SoundStore.{Encodes}
use Rattle.image.proofs.BridgeTheorem.{encoding-is-sound}
use Rattle.outcomes.specs.Outcomes.{Tested, passed, failed, tested, bucket_tested, Changed, changed, insert_on}
use Rattle.outcomes.specs.Outcomes.{insert_outcome, remove_on, remove_outcome, WorkDone}
use Rattle.outcomes.specs.Outcomes.{work_outcome, squeeze_outcome, run_store, step_store}
use Rattle.outcomes.specs.Outcomes.{work_on as work_store}
use Rattle.outcomes.specs.Refusals.{call_numbers_ok, Tests, refused_as}
use Rattle.outcomes.proofs.OutcomeLaws.{run-failed}
use Rattle.outcomes.proofs.OutcomeIndexLaws.{step-alike}
use Rattle.outcomes.proofs.OutcomeSoundLaws.{passed-encodes}
use Rattle.journal.specs.Journal.{Disk}
use Rattle.journal.specs.Cut.{Ready, Becomes}
use Rattle.journal.proofs.CrashTheorem.{whole}
use Rattle.cuts.specs.Journalled.{Journalled, journalled, change_on, insert_journalled}
use Rattle.cuts.specs.Journalled.{remove_journalled, step_to, step_journalled, WorkJournalled, work_on}
use Rattle.cuts.specs.Journalled.{work_journalled}
use Rattle.cuts.specs.Journalled.{squeeze_journalled, run_disk}
use Rattle.cuts.proofs.TestedLaws.{tested-ready, Journals, disk-fails}
use Rattle.cuts.specs.BecomesLaws.{becomes-call, becomes-step}

-- What a call did to a disk beside what it does to a store.
pub record Same (a : Ran Disk) (b : Ran (List ℕ)) : Type 0 where
  pub reply : a.reply ≡ b.reply
  pub store : a.state.store ≡ b.state
  pub ready : Ready a.state

-- the two sides of an insert or a removal, and of a work or squeeze call
abbrev on_disk : Journalled → Ran Disk
on_disk c = record { reply = plain c.answer; state = c.disk }

abbrev on_bytes : Changed → Ran (List ℕ)
on_bytes c = record { reply = plain c.answer; state = c.store }

abbrev worked_disk : WorkJournalled → Ran Disk
worked_disk c = record { reply = worked c.answer; state = c.disk }

abbrev worked_bytes : WorkDone → Ran (List ℕ)
worked_bytes c = record { reply = worked c.answer; state = c.store }

-- ---- insert, remove

change-same : {d : Disk} → Ready d → (q : Result) {m : ℕ} → Becomes d m (changed d.store q).store
    → Same (on_disk (journalled d q)) (on_bytes (changed d.store q))
change-same r (done y) b = let w = whole r b in record { reply = refl; store = w.0; ready = w.1 }
change-same r (refused q) b = record { reply = refl; store = refl; ready = r }

-- ---- work, squeeze

-- the store s beside its journal, with the head wiped
pub record Stands (d : Disk) (s : List ℕ) : Type 0 where
  pub same : d.store ≡ s
  pub ready : Ready d
  pub index : Index
  pub encodes : Encodes s index

step_same : (k : Kind) (d : Disk) (s : List ℕ) → Stands d s → Alike Stands (step_journalled k d) (step_store k s)
unfolding step_journalled
step_same k d s h =
    subst (λ (u : List ℕ). Alike Stands (step_to d (step_store k d.store)) (step_store k u)) h.same
    (go (step_store k d.store) refl (step_index k x) refl (step-alike k d.store x e))
  where
    x : Index
    x = h.index

    e : Encodes d.store h.index
    e = subst (λ (u : List ℕ). Encodes u h.index) (sym h.same) h.encodes

    go : (a : Step (List ℕ)) → step_store k d.store ≡ a → (b : Step Index) → step_index k x ≡ b → Alike Encodes a b
        → Alike Stands (step_to d a) a
    go (next t) i (next y) j f =
        let w = whole h.ready (becomes-step e k i) in
        record { same = w.0; ready = w.1; index = y; encodes = f }
    go (next t) i (stopped c) j f = absurd f
    go (stopped c) i b j f = refl

work-same : (k : Kind) (budget : ℕ) {d : Disk} {x : Index} → Ready d → Encodes d.store x → (t : Tested)
    → Same (worked_disk (work_on t d (iterate (step_journalled k) budget d)))
    (worked_bytes (work_store t d.store (iterate (step_store k) budget d.store)))
work-same k budget r e (failed q) = record { reply = refl; store = refl; ready = r }
work-same k budget {d} {x} r e (passed y) =
    let a = iterate-alike Stands (step_journalled k) (step_store k) (step_same k) budget d d.store
    (record { same = refl; ready = r; index = x; encodes = e }) in
    record {
      reply = λ i. worked (Ok (work_of (a.steps i) (a.stop i)));
      store = a.state.same;
      ready = a.state.ready;
    }

-- ---- the calls with a journal, on the bytes of an index

sound-same : {d : Disk} {x : Index} → Ready d → Encodes d.store x → (c : Call) → Journals c → CallFits c
    → Same (run_disk c d) (run_store c d.store)
unfolding run_disk run_store insert_journalled remove_journalled work_journalled squeeze_journalled
    insert_outcome remove_outcome work_outcome squeeze_outcome
sound-same {d} {x} r e (inserting p) j f =
    rw (tested-ready (pair_ok p) r) (go (tested (pair_ok p) d.store) (becomes-call e (inserting p) f tt))
  where
    go : (t : Tested) → Becomes d x.size (insert_on t d.store p).store
        → Same (on_disk (change_on t (λ x. insert x p) d)) (on_bytes (insert_on t d.store p))
    go (failed q) b = record { reply = refl; store = refl; ready = r }
    go (passed y) b = change-same r (insert y p) b
sound-same {d} {x} r e (removing p) j f =
    rw (tested-ready (pair_ok p) r) (go (tested (pair_ok p) d.store) (becomes-call e (removing p) f tt))
  where
    go : (t : Tested) → Becomes d x.size (remove_on t d.store p).store
        → Same (on_disk (change_on t (λ x. remove x p) d)) (on_bytes (remove_on t d.store p))
    go (failed q) b = record { reply = refl; store = refl; ready = r }
    go (passed y) b = change-same r (remove y p) b
sound-same {d} r e (working budget) j f =
    rw (tested-ready (budget_ok budget) r) (work-same of_splits budget r e (tested (budget_ok budget) d.store))
sound-same {d} r e (squeezing b budget) j f =
    rw (tested-ready (budget_ok budget) r)
    (work-same (of_squeeze b) budget r e (bucket_tested (tested (budget_ok budget) d.store) b))
sound-same r e (formatting order) j f = elim j [ ]
sound-same r e (looking hash output) j f = elim j [ ]
sound-same r e asking j f = elim j [ ]

-- ---- all calls, on any bytes: those of no index are refused

pub journalled-bytes : {d : Disk} → Ready d → Bytes d.store → (c : Call) → CallFits c
    → Same (run_disk c d) (run_store c d.store)
unfolding run_disk run_store
journalled-bytes {d} r b = by
  where
    tests : (c : Call) → CallFits c → Journals c → Tests (effect c) → (t : Tested)
        → tested (call_numbers_ok (effect c)) d.store ≡ t → Same (run_disk c d) (run_store c d.store)
    tests c f j s (failed q) e =
        let x = disk-fails c j d q (tested-ready (call_numbers_ok (effect c)) r ∙ e) in
        let y = run-failed c s d.store q e in
        subst (λ (a : Ran Disk). Same a (run_store c d.store)) (sym x)
        (subst (Same (record { reply = refused_as c q; state = d })) (sym y)
        (record { reply = refl; store = refl; ready = r }))
    tests c f j s (passed x) e = sound-same r (passed-encodes d.store b (call_numbers_ok (effect c)) x e) c j f

    by : (c : Call) → CallFits c → Same (run_disk c d) (run_store c d.store)
    by (formatting o) f =
        record { reply = refl; store = refl; ready = record { sixteen = r.sixteen; clean = r.clean } }
    by (inserting p) f = tests (inserting p) f tt tt _ refl
    by (removing p) f = tests (removing p) f tt tt _ refl
    by (looking h out) f = record { reply = refl; store = refl; ready = r }
    by (working budget) f = tests (working budget) f tt tt _ refl
    by (squeezing k budget) f = tests (squeezing k budget) f tt tt _ refl
    by asking f = record { reply = refl; store = refl; ready = r }

pub journalled-same : {d : Disk} {x : Index} → Ready d → Encodes d.store x → (c : Call) → CallFits c
    → Same (run_disk c d) (run_store c d.store)
journalled-same {x = x} r e = journalled-bytes r (subst Bytes (sym e.1) (encoding-is-sound x e.0).bytes)
