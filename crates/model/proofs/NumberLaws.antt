-- The store number is the last accepted format's: every other call leaves it.
use Rattle.std.specs.Prelude.{◌≡◌, refl, Bool, true, false, cond, ℕ}
use Rattle.std.proofs.Common.{sym, ap, ◌∙◌}
use Rattle.model.specs.Index.{Index}
use Rattle.model.specs.Calls.{format}
use Rattle.model.specs.Machine.{Call, CallFits, accepted, Ran, run_index, step_index}
use Rattle.model.specs.Book.{Effect, effect, number_after}
use Rattle.model.proofs.FrameLaws.{insert-frame, remove-frame}
use Rattle.model.proofs.KindLaws.{kind-store}
use Rattle.model.proofs.WorkLaws.{iterate-keeps}
use Rattle.model.proofs.RunLaws.{Running, refuses, formats, inserts, removes, reads, works, run-view}

pub number-run : (c : Call) → CallFits c → (x : Index) → let r = run_index c x in
    r.state.number ≡ cond (accepted r.reply) (number_after (effect c) x.number) x.number
unfolding format
number-run c fits x = go (run-view c fits x)
  where
    n : ℕ
    n = x.number

    same : (b : Bool) → n ≡ cond b n n
    same true = refl
    same false = refl

    go : {e : Effect} {r : Ran Index} → Running x e r
        → r.state.number ≡ cond (accepted r.reply) (number_after e x.number) x.number
    go (refuses {e = e} d) = sym (ap (λ (b : Bool). cond b (number_after e n) n) d)
    go (formats f s k) = refl
    go (inserts {p = p} {y = y} f e) = (insert-frame x p y e).frame.number
    go (removes {p = p} {y = y} e) = (remove-frame x p y e).frame.number
    go (reads {r = r}) = same (accepted r)
    go (works {kind = j} {budget = budget} {r = r} h) =
        iterate-keeps (step_index j) (λ (y : Index). y.number ≡ x.number) (λ y z k e. (kind-store j y z e).number ∙ k) budget x
        refl
        ∙ same (accepted r)
