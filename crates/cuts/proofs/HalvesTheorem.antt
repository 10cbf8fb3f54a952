-- A CHANGE IN TWO HALVES IS THE CALL. docs/RULES.md 11.9: "All of them in order, from 0 on, are the call". Where an
-- insert, a removal or a step is planned, the call that does the n-th block store of a plan, made for each of them in
-- order, leaves store and journal as the call does that works whole. A step is work or squeeze with a budget of 1.
use Rattle.model.specs.declared.Listing.{Listing}
use Rattle.std.specs.Prelude.{◌≡◌, List, ℕ, Ok}
use Rattle.std.proofs.Math.Path.{ap}
use Rattle.lists.specs.Bytes.{Bytes}
use Rattle.page.specs.declared.Pair.{Pair}
use Rattle.model.specs.Calls.{pair_ok, insert, remove}
use Rattle.model.specs.Machine.{inserting, removing, working, squeezing, CallFits, of_splits, of_squeeze}
use Rattle.outcomes.specs.Outcomes.{Tested, insert_on, insert_outcome, remove_on, remove_outcome, work_outcome}
use Rattle.outcomes.specs.Outcomes.{squeeze_outcome, run_store}
use Rattle.journal.specs.Journal.{Disk}
use Rattle.cuts.specs.Journalled.{insert_journalled, remove_journalled, work_journalled, squeeze_journalled, run_disk}
use Rattle.cuts.specs.Halves.{plan_insert, plan_remove, plan_work, plan_squeeze}
use Rattle.cuts.specs.InOrder.{InOrder}
use Rattle.cuts.proofs.PlanCallLaws.{change-in-order, step-in-order}

module _ {d : Disk} (bytes : Bytes d.store) (b : List ℕ) (n : ℕ) where
  pub halves-insert : (p : Pair) → CallFits (inserting p) → (plan_insert d p b).answer ≡ Ok (Listing.Stores n)
      → InOrder d (plan_insert d p b).plan n (run_store (inserting p) d.store).state (run_disk (inserting p) d).state
  unfolding plan_insert run_disk run_store insert_journalled insert_outcome
  halves-insert p fits e =
      change-in-order bytes b n (inserting p) fits tt (pair_ok p) (λ x. insert x p)
      (λ x i. ap (λ (t : Tested). (insert_on t d.store p).store) i) e

  pub halves-remove : (p : Pair) → CallFits (removing p) → (plan_remove d p b).answer ≡ Ok (Listing.Stores n)
      → InOrder d (plan_remove d p b).plan n (run_store (removing p) d.store).state (run_disk (removing p) d).state
  unfolding plan_remove run_disk run_store remove_journalled remove_outcome
  halves-remove p fits e =
      change-in-order bytes b n (removing p) fits tt (pair_ok p) (λ x. remove x p)
      (λ x i. ap (λ (t : Tested). (remove_on t d.store p).store) i) e

  pub halves-work : (plan_work d b).answer ≡ Ok (Listing.Stores n)
      → InOrder d (plan_work d b).plan n (run_store (working 1) d.store).state (run_disk (working 1) d).state
  unfolding plan_work run_disk run_store work_journalled work_outcome
  halves-work e = step-in-order bytes b n of_splits e

  pub halves-squeeze : (k : ℕ) → (plan_squeeze d k b).answer ≡ Ok (Listing.Stores n)
      → InOrder d (plan_squeeze d k b).plan n (run_store (squeezing k 1) d.store).state
      (run_disk (squeezing k 1) d).state
  unfolding plan_squeeze run_disk run_store squeeze_journalled squeeze_outcome
  halves-squeeze k e = step-in-order bytes b n (of_squeeze k) e
