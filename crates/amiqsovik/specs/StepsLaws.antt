-- The steps of a work or squeeze call fit 16 bits.
use Rattle.std.specs.Prelude.{◌≡◌, refl, ℕ, zero, suc, ◌≤◌}
use Rattle.std.proofs.Common.{arith, leb-true}
use Rattle.model.specs.Index.{Index}
use Rattle.model.specs.Steps.{Step, next, stopped, iterate}
use Rattle.model.specs.Calls.{budget_ok}
use Rattle.model.specs.Machine.{of_splits, of_squeeze}
use Rattle.model.proofs.MachineLaws.{never}
use Rattle.model.specs.Answers.{work_steps}
use Rattle.outcomes.specs.Outcomes.{Tested, passed, failed, bucket_tested}
use Rattle.outcomes.proofs.OutcomeLaws.{passed-numbers}
use Rattle.journal.specs.Journal.{Disk}
use Rattle.cuts.specs.Journalled.{tested_with, step_journalled, work_on, work_journalled, squeeze_journalled}
use Rattle.cuts.proofs.TestedLaws.{passed-ready}

pub iterate-steps : {S : Type 0} (f : S → Step S) (budget : ℕ) (s : S) → (iterate f budget s).steps ≤ budget
iterate-steps f zero s = omega arith
iterate-steps {S} f (suc n) s = go (f s) refl (iterate-steps f n)
  where
    go : (r : Step S) → f s ≡ r → ((t : S) → (iterate f n t).steps ≤ n) → (iterate f (suc n) s).steps ≤ suc n
    go (next t) e ih = rw (e, iterate) (omega (arith, ih t))
    go (stopped r) e ih = rw (e, iterate) (omega arith)

-- the budget of a call that passes its tests
passed-budget : (budget : ℕ) (d : Disk) (x : Index) → tested_with (budget_ok budget) d ≡ passed x → budget ≤ 65535
passed-budget budget d x h =
    leb-true budget 65535
    (passed-numbers d.store (budget_ok budget) x (passed-ready (budget_ok budget) d x h).passes)

module _ (f : Disk → Step Disk) (budget : ℕ) (d : Disk) where
  -- by tests that come to t
  few : (t : Tested) → ((x : Index) → t ≡ passed x → budget ≤ 65535)
      → work_steps (work_on t d (iterate f budget d)).answer ≤ 65535
  few (failed r) h = omega arith
  few (passed x) h = omega (arith, h x refl, iterate-steps f budget d)

pub work-steps : (d : Disk) (budget : ℕ) → work_steps (work_journalled d budget).answer ≤ 65535
unfolding work_journalled
work-steps d budget =
    few (step_journalled of_splits) budget d (tested_with (budget_ok budget) d) (passed-budget budget d)

pub squeeze-steps : (d : Disk) (b budget : ℕ) → work_steps (squeeze_journalled d b budget).answer ≤ 65535
unfolding squeeze_journalled
squeeze-steps d b budget =
    few (step_journalled (of_squeeze b)) budget d (bucket_tested (tested_with (budget_ok budget) d) b)
    (λ x h. go (tested_with (budget_ok budget) d) refl x h)
  where
    go : (t : Tested) → tested_with (budget_ok budget) d ≡ t → (x : Index) → bucket_tested t b ≡ passed x
        → budget ≤ 65535
    go (failed r) e x h = never (cc)
    go (passed y) e x h = passed-budget budget d y e
