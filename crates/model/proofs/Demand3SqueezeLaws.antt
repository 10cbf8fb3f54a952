-- What a squeeze answers on an index, by its buckets and its job; what its steps do to the pages of the chain.
use Rattle.std.specs.Prelude.{◌≡◌, refl, ◌↔◌, ◌≢◌, Bool, true, false, ℕ, suc, ◌≤◌, leb}
use Rattle.std.proofs.Common.{sym, ap₂, ◌∙◌, subst, arith, le-leb}
use Rattle.std.proofs.Math.Path.{ap}
use Rattle.std.proofs.Math.Option.{Option}
use Rattle.std.proofs.lemmas.Bool.{lt-leb}
use Rattle.page.specs.declared.Entry.{Entry}
use Rattle.model.specs.declared.Refusal.{Refusal}
use Rattle.model.specs.declared.Stop.{Stop}
use Rattle.model.specs.Index.{Chain, Job, idle, copying, clearing, Index, chain, old_bucket, new_bucket}
use Rattle.model.specs.Steps.{next, stopped}
use Rattle.model.specs.Squeeze.{squeezed, squeeze_in, squeeze_step, squeeze, busy_in, is_busy, bucket_in}
use Rattle.model.specs.Squeeze.{bucket_test}
use Rattle.model.specs.Calls.{phase_in}
use Rattle.model.specs.Machine.{squeezing, squeezed_in, run_index, on_index}
use Rattle.model.proofs.MachineLaws.{index-squeezes}
use Rattle.model.specs.WellFormed.{WF}
use Rattle.model.specs.StandLaws.{chain-here, chain-there}
use Rattle.model.specs.History.{Moment, phase_at}
use Rattle.model.specs.Demand.{of_job, SqueezeIs}
use Rattle.model.specs.Shift.{pages_in, NoEarlier, Moves, ShiftIs}
use Rattle.model.proofs.SqueezeLaws.{mover-is}
use Rattle.model.proofs.SqueezeStepLaws.{Squeezing, moved, squeeze-view, mover-range, squeeze-stops}
use Rattle.model.proofs.PackedLaws.{no_earlier-is}
use Rattle.model.proofs.ShiftLaws.{moving-moves}
use Rattle.model.proofs.Demand3AnswerLaws.{phase-job}

-- the buckets of standing's job are the busy ones
pub busy-phase : (x : Index) (b : ℕ) → of_job (phase_in x.job (old_bucket x) (new_bucket x)) b ≡ is_busy x b
unfolding is_busy
busy-phase x b = go x.job
  where
    go : (j : Job) → of_job (phase_in j (old_bucket x) (new_bucket x)) b ≡ busy_in j x b
    go idle = refl
    go copying = refl
    go clearing = refl

busy-is : (x : Index) (b : ℕ) → of_job (phase_at on_index x) b ≡ is_busy x b
busy-is x b = rw (phase-job x) (busy-phase x b)

pub squeeze-is : (x : Index) (n b budget : ℕ) → suc x.max_bucket ≡ n → budget ≤ 65535 → SqueezeIs on_index n b x budget
unfolding run_index bucket_test
squeeze-is x n b budget e h =
    record {
      above = λ l. answers false (is_busy x b) (lt-leb b x.max_bucket (omega arith)) refl;
      busy = λ l k. answers true true (le-leb b x.max_bucket (omega arith)) (sym (busy-is x b) ∙ k);
      free = λ l k.
          index-squeezes x b budget h
          (ap₂ bucket_in (le-leb b x.max_bucket (omega arith)) (sym (busy-is x b) ∙ k));
    }
  where
    answers : (r u : Bool) → leb b x.max_bucket ≡ r → is_busy x b ≡ u
        → (run_index (squeezing b budget) x).reply ≡ (squeezed_in true (bucket_in r u) x (squeeze b budget x)).reply
    answers r u k l =
        ap₂ (λ (a : Bool) (t : Option Refusal). (squeezed_in a t x (squeeze b budget x)).reply) (le-leb budget 65535 h)
        (ap₂ bucket_in k l)

-- ---- its steps

-- "9 when no earlier page has room"
squeeze-rests : (x : Index) → WF x → (b : ℕ) (r : Stop)
    → (squeeze_step b x ≡ stopped r) ↔ ((r ≡ Stop.Idle) × NoEarlier x b)
squeeze-rests x w b r =
    let n = no_earlier-is (chain x b) (w.laid.pages b) in (
      λ h. (let k = squeeze-stops b x r h in (k.0, n.0 k.1)),
      λ h. (unfold squeeze_step in ap (λ (m : Option Entry). squeeze_in m b x) (n.1 h.1) ∙ ap stopped (sym h.0)),
    )

squeeze-moves : (x : Index) → WF x → (b : ℕ) (y : Index) → squeeze_step b x ≡ next y
    → Moves (pages_in (chain x b)) (pages_in (chain y b))
squeeze-moves x w b y h = go (rw h at (squeeze-view x b))
  where
    go : {z : Index} → Squeezing x b (next z) → Moves (pages_in (chain x b)) (pages_in (chain z b))
    go (moved e k) =
        subst (λ (c : Chain). Moves (pages_in (chain x b)) (pages_in c))
        (sym (chain-here x x.spares b (squeezed e (chain x b)) (mover-range x b e k)))
        (moving-moves (chain x b) e (mover-is (chain x b) e k))

squeeze-others : (x : Index) (b d : ℕ) (y : Index) → d ≢ b → squeeze_step b x ≡ next y → chain y d ≡ chain x d
squeeze-others x b d y ne h = go (rw h at (squeeze-view x b))
  where
    go : {z : Index} → Squeezing x b (next z) → chain z d ≡ chain x d
    go (moved e k) = chain-there x x.spares b (squeezed e (chain x b)) (mover-range x b e k) d ne

pub shift_is : (t : Moment on_index) → WF t.state → ShiftIs on_index (λ x. x) t
shift_is t w =
    record {
      stops = squeeze-rests t.state w;
      moves = squeeze-moves t.state w;
      others = squeeze-others t.state;
    }
