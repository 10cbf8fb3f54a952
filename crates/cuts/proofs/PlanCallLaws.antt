-- A plan that a call works out: its block stores, in order, are the call.
use Rattle.model.specs.declared.Listing.{Listing}
use Rattle.model.specs.declared.LentError.{LentError}
use Rattle.std.specs.Prelude.{◌≡◌, Bool, false, cond, leb, length, Ok, Err}
use Rattle.std.proofs.Math.Path.{refl, subst}
use Rattle.std.proofs.Common.{sym, ap, ◌∙◌, leb-true}
use Rattle.std.proofs.Math.Bool.{true}
use mathlib.Core.List.{List}
use Prim.Native.Nat.{ℕ, ◌≤◌}
use Rattle.lists.specs.Bytes.{Bytes}
use Rattle.model.specs.declared.Refusal.{Refusal}
use Rattle.model.specs.Index.{Index}
use Rattle.model.specs.Steps.{Step, next, stopped, iterate}
use Rattle.model.specs.Calls.{Result, done, refused}
use Rattle.model.specs.Machine.{Call, CallFits, Kind, of_splits, of_squeeze}
use Rattle.model.proofs.MachineLaws.{never}
use Rattle.image.specs.Layout.{encode}
use Rattle.image.specs.SoundStore.{Encodes}
use Rattle.outcomes.specs.Outcomes.{Tested, passed, failed, tested, bucket_tested, changed, work_on as work_store}
use Rattle.outcomes.specs.Outcomes.{run_store, step_store}
use Rattle.outcomes.proofs.OutcomeLaws.{passed-sound}
use Rattle.outcomes.proofs.OutcomeSoundLaws.{legal-is, passed-encodes}
use Rattle.journal.specs.Journal.{Disk}
use Rattle.journal.specs.Altered.{altered, change_stores, written}
use Rattle.journal.specs.Cut.{Becomes}
use Rattle.journal.specs.Planned.{plan_size}
use Rattle.cuts.specs.Journalled.{tested_with, journalled, change_on, step_journalled, work_on}
use Rattle.cuts.specs.Halves.{Planned, answering, planned_to, planned_as, plan_change, planned_step, plan_step}
use Rattle.cuts.specs.Halves.{unless_short}
use Rattle.cuts.specs.Events.{OneChange}
use Rattle.cuts.specs.EightTheorem.{change-touches, step-touches-store}
use Rattle.cuts.proofs.TestedLaws.{Passed, passed-ready}
use Rattle.cuts.specs.BecomesLaws.{becomes-call, becomes-step}
use Rattle.cuts.specs.InOrder.{InOrder}
use Rattle.cuts.specs.HalvesLaws.{in_order_lem}

-- the tests of a step: a squeeze's bucket is tested last
abbrev pub step_tested : Kind → Tested → Tested
step_tested of_splits t = t
step_tested (of_squeeze b) t = bucket_tested t b

-- a buffer that was long enough
long-enough : (b : List ℕ) (p : Planned) (n : ℕ) → (unless_short b p).answer ≡ Ok (Listing.Stores n)
    → (plan_size ≤ length b) × (unless_short b p ≡ p)
long-enough b p n e = go (leb plan_size (length b)) refl e
  where
    go : (l : Bool) → leb plan_size (length b) ≡ l
        → (cond l p (answering b (Err LentError.Short))).answer ≡ Ok (Listing.Stores n)
        → (plan_size ≤ length b) × (cond l p (answering b (Err LentError.Short)) ≡ p)
    go true h e = (leb-true plan_size (length b) h, refl)
    go false h e = never (cc)

module _ {d : Disk} {x : Index} (bytes : Bytes d.store) (n : Bool) (g : Passed n d x) where
  sound : Encodes d.store x
  sound = passed-encodes d.store bytes n x g.passes

  -- the change to t, of at most 8 blocks
  planned : {t : List ℕ} → Becomes d x.size t → length (altered d.store t) ≤ 8 → (b : List ℕ)
      → plan_size ≤ length b
      → InOrder d (planned_to d b t).plan (length (change_stores d t)) t (written d t)
  planned c few b long =
      in_order_lem g.ready c
      (sym (legal-is d.store x.size c.size) ∙ (passed-sound d.store n x g.passes).0) few b long

-- ---- insert, remove

module _ {d : Disk} (bytes : Bytes d.store) (b : List ℕ) (n : ℕ) where
  -- a call of one change that does to a store what `change` does to its index, if the tests pass
  pub change-in-order : (c : Call) → CallFits c → OneChange c → (a : Bool) (change : Index → Result)
      → ((x : Index) → tested a d.store ≡ passed x
      → (run_store c d.store).state ≡ (changed d.store (change x)).store)
      → (unless_short b (plan_change (tested_with a d) change d b)).answer ≡ Ok (Listing.Stores n)
      → InOrder d (unless_short b (plan_change (tested_with a d) change d b)).plan n (run_store c d.store).state
      (change_on (tested_with a d) change d).disk
  change-in-order c fits o a change does e =
      let l = long-enough b (plan_change (tested_with a d) change d b) n e in
      subst (λ (p : Planned). InOrder d p.plan n t (change_on (tested_with a d) change d).disk) (sym l.1)
      (go (tested_with a d) refl (ap (λ (p : Planned). p.answer) (sym l.1) ∙ e) l.0)
    where
      t : List ℕ
      t = (run_store c d.store).state

      to : (x : Index) (q : Result) → Passed a d x → change x ≡ q → plan_size ≤ length b
          → (planned_as d b q).answer ≡ Ok (Listing.Stores n)
          → InOrder d (planned_as d b q).plan n t (journalled d q).disk
      to x (done y) g i long e =
          let r = sound bytes a g in
          let z : t ≡ encode y = does x g.passes ∙ ap (λ (q : Result). (changed d.store q).store) i in
          let k : length (change_stores d (encode y)) ≡ n = cc in
          subst (λ (k : ℕ). InOrder d (planned_to d b (encode y)).plan k t (written d (encode y))) k
          (subst (λ (u : List ℕ). InOrder d (planned_to d b u).plan (length (change_stores d u)) t (written d u)) z
          (planned bytes a g (becomes-call r c fits o) (change-touches d.store x r c fits o) b long))
      to x (refused q) g i long e = never (cc)

      go : (v : Tested) → tested_with a d ≡ v → (plan_change v change d b).answer ≡ Ok (Listing.Stores n)
          → plan_size ≤ length b
          → InOrder d (plan_change v change d b).plan n t (change_on v change d).disk
      go (failed q) i e long = never (cc)
      go (passed x) i e long = to x (change x) (passed-ready a d x i) refl long e

  -- ---- one step of work or squeeze

  pub step-in-order : (k : Kind)
      → (unless_short b (plan_step (step_tested k (tested_with true d)) k d b)).answer ≡ Ok (Listing.Stores n)
      → InOrder d (unless_short b (plan_step (step_tested k (tested_with true d)) k d b)).plan n
      (work_store (step_tested k (tested true d.store)) d.store (iterate (step_store k) 1 d.store)).store
      (work_on (step_tested k (tested_with true d)) d (iterate (step_journalled k) 1 d)).disk
  unfolding step_journalled
  step-in-order k e =
      let l = long-enough b (plan_step (step_tested k (tested_with true d)) k d b) n e in
      subst (λ (p : Planned). InOrder d p.plan n
      (work_store (step_tested k (tested true d.store)) d.store (iterate (step_store k) 1 d.store)).store
      (work_on (step_tested k (tested_with true d)) d (iterate (step_journalled k) 1 d)).disk) (sym l.1)
      (go (tested_with true d) refl (ap (λ (p : Planned). p.answer) (sym l.1) ∙ e) l.0)
    where
      s : List ℕ
      s = d.store

      to : {x : Index} → Passed true d x → (a : Step (List ℕ)) → step_store k s ≡ a → plan_size ≤ length b
          → (planned_step d b a).answer ≡ Ok (Listing.Stores n)
          → InOrder d (planned_step d b a).plan n (iterate (step_store k) 1 s).state
          (iterate (step_journalled k) 1 d).state
      to {x} g (next t) i long e =
          let r = sound bytes true g in
          let j : length (change_stores d t) ≡ n = cc in
          rw (i, iterate)
          (subst (λ (j : ℕ). InOrder d (planned_to d b t).plan j t (written d t)) j
          (planned bytes true g (becomes-step r k i) (step-touches-store s x r k t i) b long))
      to g (stopped q) i long e = never (cc)

      -- the tests passed, or did not
      by : {x : Index} → Passed true d x → (u v : Tested) → v ≡ u → plan_size ≤ length b
          → (plan_step u k d b).answer ≡ Ok (Listing.Stores n)
          → InOrder d (plan_step u k d b).plan n (work_store v s (iterate (step_store k) 1 s)).store
          (work_on u d (iterate (step_journalled k) 1 d)).disk
      by g (failed q) v i long e = never (cc)
      by g (passed y) v i long e =
          subst (λ (v : Tested). InOrder d (planned_step d b (step_store k s)).plan n
          (work_store v s (iterate (step_store k) 1 s)).store (iterate (step_journalled k) 1 d).state) (sym i)
          (to g (step_store k s) refl long e)

      refuses : (k j : Kind) (q : Refusal) → (plan_step (step_tested k (failed q)) j d b).answer ≡ Err (LentError.Refused q)
      refuses of_splits j q = refl
      refuses (of_squeeze c) j q = refl

      go : (v : Tested) → tested_with true d ≡ v → (plan_step (step_tested k v) k d b).answer ≡ Ok (Listing.Stores n)
          → plan_size ≤ length b
          → InOrder d (plan_step (step_tested k v) k d b).plan n
          (work_store (step_tested k (tested true s)) s (iterate (step_store k) 1 s)).store
          (work_on (step_tested k v) d (iterate (step_journalled k) 1 d)).disk
      go (failed q) i e long = never (let z = refuses k k q in cc)
      go (passed x) i e long =
          let g = passed-ready true d x i in
          by g (step_tested k (passed x)) (step_tested k (tested true s)) (ap (step_tested k) g.passes) long e
