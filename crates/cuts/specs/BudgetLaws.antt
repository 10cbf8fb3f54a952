-- A work or squeeze call with a budget of one more: a step more, where there is one.
use Rattle.std.specs.Prelude.{◌≡◌, refl, Bool, true, List, ℕ, zero, suc}
use Rattle.std.proofs.Common.{sym, ap, ◌∙◌, subst, arith, le-leb, leb-true}
use Rattle.model.specs.Index.{Index}
use Rattle.model.specs.Steps.{Step, next, stopped, iterate}
use Rattle.model.specs.Calls.{budget_ok}
use Rattle.model.specs.Machine.{CallFits, Kind, of_splits, of_squeeze, stepping, worked, accepted}
use Rattle.model.proofs.MachineLaws.{never}
use Rattle.model.proofs.RunLaws.{refused-no}
use Rattle.outcomes.specs.Outcomes.{Tested, passed, failed, tested, bucket_tested, work_on, work_outcome, squeeze_outcome}
use Rattle.outcomes.specs.Outcomes.{run_store, step_store}
use Rattle.outcomes.proofs.OutcomeLaws.{passed-numbers}

iterate-more : {S : Type 0} (f : S → Step S) (i : ℕ) (s t : S) → f (iterate f i s).state ≡ next t
    → (iterate f (suc i) s).state ≡ t
iterate-more f zero s t e = rw (e, iterate) refl
iterate-more {S} f (suc n) s t e = go (f s) refl e (iterate-more f n)
  where
    go : (a : Step S) → f s ≡ a → f (iterate f (suc n) s).state ≡ next t
        → ((u t : S) → f (iterate f n u).state ≡ next t → (iterate f (suc n) u).state ≡ t)
        → (iterate f (suc (suc n)) s).state ≡ t
    go (next u) h e ih = rw (h, iterate) (ih u t (rw (h, iterate) at e))
    go (stopped r) h e ih = never (let q : f s ≡ next t = rw (h, iterate) at e in cc)

-- a budget of one less is good too
tested-fewer : (s : List ℕ) (i : ℕ) (x : Index) → tested (budget_ok (suc i)) s ≡ passed x
    → tested (budget_ok i) s ≡ passed x
tested-fewer s i x e =
    let n = passed-numbers s (budget_ok (suc i)) x e in
    let l = leb-true (suc i) 65535 n in
    ap (λ (b : Bool). tested b s) (le-leb i 65535 (omega arith) ∙ sym n) ∙ e

pub works-more : (k : Kind) (i : ℕ) (s t : List ℕ) → accepted (run_store (stepping k (suc i)) s).reply ≡ true
    → step_store k (run_store (stepping k i) s).state ≡ next t → (run_store (stepping k (suc i)) s).state ≡ t
unfolding run_store work_outcome squeeze_outcome
works-more k i s t = by k
  where
    more : (k : Kind) (a b : Tested) → ((x : Index) → a ≡ passed x → b ≡ a)
        → accepted (worked (work_on a s (iterate (step_store k) (suc i) s)).answer) ≡ true
        → step_store k (work_on b s (iterate (step_store k) i s)).store ≡ next t
        → (work_on a s (iterate (step_store k) (suc i) s)).store ≡ t
    more k (failed r) b h g e = let n = refused-no r in never (cc)
    more k (passed x) b h g e =
        iterate-more (step_store k) i s t
        (subst (λ (c : Tested). step_store k (work_on c s (iterate (step_store k) i s)).store ≡ next t) (h x refl) e)

    bucket : (b : ℕ) (a : Tested) → tested (budget_ok (suc i)) s ≡ a → (x : Index) → bucket_tested a b ≡ passed x
        → bucket_tested (tested (budget_ok i) s) b ≡ bucket_tested a b
    bucket b (failed r) h x e = never (cc)
    bucket b (passed y) h x e = ap (λ (a : Tested). bucket_tested a b) (tested-fewer s i y h)

    by : (k : Kind) → accepted (run_store (stepping k (suc i)) s).reply ≡ true
        → step_store k (run_store (stepping k i) s).state ≡ next t → (run_store (stepping k (suc i)) s).state ≡ t
    by of_splits =
        more of_splits (tested (budget_ok (suc i)) s) (tested (budget_ok i) s) (λ x e. tested-fewer s i x e ∙ sym e)
    by (of_squeeze b) =
        more (of_squeeze b) (bucket_tested (tested (budget_ok (suc i)) s) b) (bucket_tested (tested (budget_ok i) s) b)
        (bucket b (tested (budget_ok (suc i)) s) refl)

pub fits-fewer : (k : Kind) (i : ℕ) → CallFits (stepping k (suc i)) → CallFits (stepping k i)
fits-fewer of_splits i f = omega arith
fits-fewer (of_squeeze b) i f = (f.0, omega (arith, f.1))
