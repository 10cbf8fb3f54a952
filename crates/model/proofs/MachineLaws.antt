-- Work and squeeze as iterations of steps: what such a call then gives, for any machine.
use Rattle.std.specs.Prelude.{◌≡◌, refl, ◌≢◌, ◌↔◌, Bool, ℕ, zero, suc, ◌≤◌, ◌<◌, Ok}
use Rattle.std.proofs.Common.{ap, ap₂, ◌∙◌, arith, le-leb}
use Rattle.std.proofs.Math.Option.{Option, none, some}
use Rattle.model.specs.declared.Refusal.{Refusal}
use Rattle.model.specs.declared.Stop.{Stop}
use Rattle.model.specs.Answers.{work_of}
use Rattle.page.specs.declared.Entry.{Entry}
use Rattle.model.specs.Index.{idle, Index, chain}
use Rattle.model.specs.Steps.{Step, next, stopped, Worked, step, iterate}
use Rattle.model.specs.Squeeze.{mover, squeeze_in, squeeze_step, squeeze, bucket_test}
use Rattle.model.specs.Calls.{work}
use Rattle.model.specs.Machine.{Kind, of_splits, of_squeeze, stepping, worked, Ran, Machine, worked_in, squeezed_in}
use Rattle.model.specs.Machine.{run_index, step_index, on_index}
use Rattle.model.specs.Demand.{after_steps, WorkIs}
use Rattle.model.proofs.FrameLaws.{job-not-idle}
use Rattle.model.proofs.ViewLaws.{Stepping, resting, unbegun, began, uncopied, copied, copied_all, cleared}
use Rattle.model.proofs.ViewLaws.{cleared_all, step-view}

-- from two constructors that would be equal, by `never (cc)`
pub never : {A : Type 0} → ◌≡◌ {A = ℕ} 0 1 → A
never z = absurd (omega arith)

-- the reply and the state of a work or squeeze call that is not refused
abbrev pub worked_by : {S : Type 0} → Worked S → Ran S
worked_by w = record { reply = worked (Ok (work_of w.steps w.stop)); state = w.state }

-- no step says that a budget is spent: only the call does
pub step-unspent : (x : Index) → step x ≢ stopped Stop.Spent
step-unspent x e = go (step-view x) e
  where
    go : {r : Step Index} → Stepping x r → r ≢ stopped Stop.Spent
    go (resting j w) e = never (cc)
    go (unbegun j w v) e = never (cc)
    go (began j w v) e = never (cc)
    go (uncopied j d k v) e = never (cc)
    go (copied j d k v) e = never (cc)
    go (copied_all j k) e = never (cc)
    go (cleared j d k) e = never (cc)
    go (cleared_all j k) e = never (cc)

-- and a step of a job stops for room alone
pub job-stops : (x : Index) → x.job ≢ idle → (r : Stop) → step x ≡ stopped r → r ≡ Stop.NoRoom
job-stops x j Stop.Spent e = absurd (step-unspent x e)
job-stops x j Stop.Idle e = absurd (job-not-idle x j e)
job-stops x j Stop.NoRoom e = refl

pub kind-unspent : (k : Kind) (x : Index) → step_index k x ≢ stopped Stop.Spent
kind-unspent of_splits x e = step-unspent x e
kind-unspent (of_squeeze b) x e = unfold squeeze_step in go (mover (chain x b)) e
  where
    go : (m : Option Entry) → squeeze_in m b x ≢ stopped Stop.Spent
    go none e = never (cc)
    go (some d) e = never (cc)

module _ (M : Machine) (k : Kind) (unspent : (s : M.State) → M.step k s ≢ stopped Stop.Spent) where
  -- the steps were made, and the iteration ended because the budget was spent or for what the next step says
  pub record Ends (s : M.State) (budget : ℕ) (w : Worked M.State) : Type 0 where
    pub reached : after_steps M k w.steps s ≡ some w.state
    pub spent : (w.steps ≡ budget) ↔ (w.stop ≡ Stop.Spent)
    pub ended : w.steps ≢ budget → (w.steps < budget) × (M.step k w.state ≡ stopped w.stop)

  pub iterate-ends : (budget : ℕ) (s : M.State) → Ends s budget (iterate (M.step k) budget s)
  iterate-ends zero s = record { reached = refl; spent = (λ e. refl, λ e. refl); ended = λ ne. absurd (ne refl) }
  iterate-ends (suc n) s = go (M.step k s) refl (iterate-ends n)
    where
      go : (r : Step M.State) → M.step k s ≡ r → ((t : M.State) → Ends t n (iterate (M.step k) n t))
          → Ends s (suc n) (iterate (M.step k) (suc n) s)
      go (next t) e ih =
          rw (e, iterate)
          (record {
            reached = rw (e, after_steps) (ih t).reached;
            spent = (λ q. (ih t).spent.0 (omega arith), λ q. ap suc ((ih t).spent.1 q));
            ended = λ ne. (let d = (ih t).ended (λ q. ne (ap suc q)) in (omega (arith, d.0), d.1));
          })
      go (stopped c) e ih =
          rw (e, iterate)
          (record {
            reached = refl;
            spent = (λ q. absurd (omega arith), λ q. absurd (unspent s (e ∙ ap stopped q)));
            ended = λ ne. (omega arith, e);
          })

  -- a machine whose call is the iteration of its steps
  pub iterate-works : (s : M.State) (budget : ℕ)
      → M.run (stepping k budget) s ≡ worked_by (iterate (M.step k) budget s) → WorkIs M k s budget
  iterate-works s budget e =
      let d = iterate-ends budget s in
      record {
        steps = (iterate (M.step k) budget s).steps;
        stop = (iterate (M.step k) budget s).stop;
        reply = ap (λ (r : Ran M.State). r.reply) e;
        reached = rw e d.reached;
        spent = d.spent;
        ended = λ ne. ((d.ended ne).0, rw e (d.ended ne).1);
      }

-- the index as a machine is one
pub index-works : (x : Index) (budget : ℕ) → budget ≤ 65535 → WorkIs on_index of_splits x budget
unfolding run_index work
index-works x budget h =
    iterate-works on_index of_splits (kind-unspent of_splits) x budget
    (ap (λ (b : Bool). worked_in b x (work budget x)) (le-leb budget 65535 h))

pub index-squeezes : (x : Index) (b budget : ℕ) → budget ≤ 65535 → bucket_test x b ≡ none
    → WorkIs on_index (of_squeeze b) x budget
unfolding run_index squeeze
index-squeezes x b budget h e =
    iterate-works on_index (of_squeeze b) (kind-unspent (of_squeeze b)) x budget
    (ap₂ (λ (a : Bool) (t : Option Refusal). squeezed_in a t x (squeeze b budget x)) (le-leb budget 65535 h) e)
