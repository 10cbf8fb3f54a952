-- The exact law of calls between a split's steps: they leave it the steps that it had left, but for those that they
-- save.
use Rattle.std.specs.Prelude.{◌≡◌, refl, Bool, true, false, ℕ, ◌+◌}
use Rattle.std.proofs.Common.{◌∙◌, arith}
use Rattle.model.specs.Index.{Index}
use Rattle.model.specs.Machine.{Call, CallFits, Kind, of_splits, of_squeeze, accepted, Ran, run_index, step_index}
use Rattle.model.specs.Book.{Effect, has_steps, effect}
use Rattle.model.specs.Steps.{iterate}
use Rattle.model.specs.Squeeze.{squeeze_step}
use Rattle.model.specs.WellFormed.{WF}
use Rattle.model.specs.StepsLeft.{steps_left}
use Rattle.model.proofs.WorkLaws.{iterate-keeps}
use Rattle.model.proofs.MachineLaws.{never}
use Rattle.model.proofs.RunLaws.{Running, refuses, formats, inserts, removes, reads, works, run-view}
use Rattle.model.proofs.SqueezeStepLaws.{squeeze-wf, squeeze-steps_left}
use Rattle.model.proofs.BusyInsertLaws.{insert-steps_left}
use Rattle.model.proofs.BusyRemoveLaws.{remove-steps_left}
use Rattle.model.specs.Busy.{Between, saves}

pub call-steps_left : (c : Call) → CallFits c → (x : Index) → WF x
    → Between (accepted (run_index c x).reply) (effect c)
    → steps_left (run_index c x).state + saves (accepted (run_index c x).reply) (effect c) x ≡ steps_left x
call-steps_left c fits x w between = go (run-view c fits x) between
  where
    none : (a : Bool) (e : Effect) → a ≡ false → steps_left x + saves a e x ≡ steps_left x
    none false e h = omega arith
    none true e h = never (cc)

    reading : (a : Bool) → steps_left x + saves a Effect.leaves x ≡ steps_left x
    reading false = omega arith
    reading true = omega arith

    squeezing : (b budget : ℕ) → steps_left (iterate (squeeze_step b) budget x).state ≡ steps_left x
    squeezing b budget =
        (iterate-keeps (squeeze_step b) (λ (y : Index). WF y × (steps_left y ≡ steps_left x))
        (λ y z h e. (squeeze-wf b y z h.0 e, squeeze-steps_left b y z h.0 e ∙ h.1)) budget x (w, refl)).1

    stepping : (a : Bool) (k : Kind) (budget : ℕ) → a ≡ true → Between a (has_steps k budget)
        → steps_left (iterate (step_index k) budget x).state + saves a (has_steps k budget) x ≡ steps_left x
    stepping false k budget h i = never (cc)
    stepping true of_splits budget h i = absurd i
    stepping true (of_squeeze b) budget h i = omega (arith, squeezing b budget)

    go : {e : Effect} {r : Ran Index} → Running x e r → Between (accepted r.reply) e
        → steps_left r.state + saves (accepted r.reply) e x ≡ steps_left x
    go (refuses {e = e} {r = r} h) i = none (accepted r) e h
    go (formats f s k) i = absurd i
    go (inserts {p = p} {y = y} f h) i = omega (arith, insert-steps_left x p y w h)
    go (removes {p = p} {y = y} h) i = remove-steps_left x p y w h
    go (reads {r = r}) i = reading (accepted r)
    go (works {kind = k} {budget = n} {r = r} h) i = stepping (accepted r) k n h i
