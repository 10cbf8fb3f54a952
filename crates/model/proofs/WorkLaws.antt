-- Work is steps: what every step keeps, work keeps.
use Rattle.std.specs.Prelude.{◌≡◌, refl, ℕ, zero, suc}
use Rattle.std.proofs.Common.{◌∙◌}
use Rattle.page.specs.declared.Pair.{Pair}
use Rattle.model.specs.Index.{Index}
use Rattle.model.specs.Held.{held}
use Rattle.model.specs.Steps.{Step, next, stopped, step, iterate}
use Rattle.model.specs.Calls.{work}
use Rattle.model.specs.WellFormed.{WF}
use Rattle.model.proofs.StepLaws.{step-wf, step-held}

-- a relation to the start that each step keeps
pub iterate-keeps : {S : Type 0} (f : S → Step S) (P : S → Type 0) → ((s t : S) → P s → f s ≡ next t → P t)
    → (budget : ℕ) (s : S) → P s → P (iterate f budget s).state
iterate-keeps f P k zero s p = p
iterate-keeps {S} f P k (suc n) s p = go (f s) refl (λ t. iterate-keeps f P k n t)
  where
    go : (r : Step S) → f s ≡ r → ((t : S) → P t → P (iterate f n t).state) → P (iterate f (suc n) s).state
    go (next t) e ih = rw (e, iterate) (ih t (k s t p e))
    go (stopped r) e ih = rw (e, iterate) p

pub work-wf : (budget : ℕ) (x : Index) → WF x → WF (work budget x).state
unfolding work
work-wf n x w = iterate-keeps step WF step-wf n x w

pub work-held : (budget : ℕ) (x : Index) → WF x → (p : Pair) → held (work budget x).state p ≡ held x p
unfolding work
work-held n x w p =
    (iterate-keeps step (λ (y : Index). WF y × (held y p ≡ held x p))
    (λ y z h e. (step-wf y z h.0 e, step-held y z h.0 e p ∙ h.1)) n x (w, refl)).1
