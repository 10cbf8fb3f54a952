-- A store in the midst of a job, by the index that it is read as, and the first step of a work call.
use Rattle.std.specs.Prelude.{◌≡◌, ◌≢◌, ◌↔◌, List, ℕ, suc, ◌≤◌, Ok}
use Rattle.std.proofs.Math.Path.{refl, ap}
use Rattle.std.proofs.Common.{sym, ◌∙◌, subst, arith, le-leb}
use Rattle.std.proofs.Math.Bool.{true}
use Rattle.lists.specs.Bytes.{Bytes}
use Rattle.model.specs.declared.Stop.{Stop}
use Rattle.model.specs.declared.Phase.{Phase}
use Rattle.model.specs.Answers.{WorkAnswer, work_steps, phase_new, standing_of, work_of}
use Rattle.model.specs.Index.{Job, idle, copying, clearing, Index, new_bucket, old_bucket}
use Rattle.model.specs.Steps.{Step, next, stopped, step, iterate}
use Rattle.model.proofs.AnswerLaws.{worked-same}
use Rattle.model.specs.Calls.{phase_in, standing}
use Rattle.model.specs.History.{phase_at}
use Rattle.model.specs.Room.{NoStep}
use Rattle.model.specs.PhaseLaws.{job_in, job-phase}
use Rattle.model.proofs.RoomLaws.{step-no_room}
use Rattle.model.proofs.MachineLaws.{never, job-stops}
use Rattle.image.specs.Decode.{decode}
use Rattle.outcomes.specs.Outcomes.{Tested, passed, failed, tested, standing_on, standing_outcome, step_on}
use Rattle.outcomes.specs.Outcomes.{step_outcome, work_on, work_outcome, run_store, on_store}
use Rattle.outcomes.proofs.OutcomeIndexLaws.{encodes-read}
use Rattle.outcomes.proofs.OutcomeSoundLaws.{passed-encodes}

-- a store's step stops exactly as its index's
pub step-stops : (s : List ℕ) (r : Stop) → (step_outcome s ≡ stopped r) ↔ (step (decode s) ≡ stopped r)
unfolding step_outcome
step-stops s r = go (step (decode s))
  where
    go : (a : Step Index) → (step_on a ≡ stopped r) ↔ (a ≡ stopped r)
    go (next y) = (λ e. never (cc), λ e. never (cc))
    go (stopped q) = (λ e. cc, λ e. cc)

module _ (s : List ℕ) (bytes : Bytes s) where
  -- ---- the phase that standing gives

  -- a store that passes the tests, in the midst of a job with this new bucket
  pub record InJob (j : Job) (new : ℕ) : Type 0 where
    pub passes : tested true s ≡ passed (decode s)
    pub job : (decode s).job ≡ j
    pub newest : new_bucket (decode s) ≡ new

  -- a phase other than none is that of the index
  pub phase-read : (ph : Phase) → phase_at on_store s ≡ ph → ph ≢ Phase.None → InJob (job_in ph) (phase_new ph)
  unfolding run_store standing_outcome standing
  phase-read ph e ne = go (tested true s) refl e
    where
      new_in : (j : Job) (o n : ℕ) → phase_in j o n ≡ ph → n ≡ phase_new ph
      new_in idle o n h = absurd (ne (sym h))
      new_in copying o n h = ap phase_new h
      new_in clearing o n h = ap phase_new h

      go : (t : Tested) → tested true s ≡ t → (standing_of (standing_on t)).phase ≡ ph → InJob (job_in ph) (phase_new ph)
      go (failed r) k h = absurd (ne (sym h))
      go (passed x) k h =
          let d : decode s ≡ x = encodes-read s x (passed-encodes s bytes true x k) in
          record {
            passes = k ∙ ap passed (sym d);
            job = ap (λ (y : Index). y.job) d ∙ sym (job-phase x.job (old_bucket x) (new_bucket x)) ∙ ap job_in h;
            newest = ap new_bucket d ∙ new_in x.job (old_bucket x) (new_bucket x) h;
          }

  -- ---- the first step of a work call

  module _ (n : ℕ) (ok : suc n ≤ 65535) where
    abbrev answer : WorkAnswer
    answer = (work_outcome s (suc n)).answer

    -- it is not made, and the call stops for what it says, or one step at least is
    abbrev First : Step (List ℕ) → Type 0
    First (stopped r) = answer ≡ Ok (work_of 0 r)
    First (next t) = 1 ≤ work_steps answer

    work-first : tested true s ≡ passed (decode s) → First (step_outcome s)
    work-first p = go (step_outcome s) refl
      where
        told : answer ≡ Ok (work_of (iterate step_outcome (suc n) s).steps (iterate step_outcome (suc n) s).stop)
        told = unfold work_outcome in
            ap (λ (t : Tested). (work_on t s (iterate step_outcome (suc n) s)).answer)
            (subst (λ b. tested b s ≡ passed (decode s)) (sym (le-leb (suc n) 65535 ok)) p)

        made : (t : List ℕ) → step_outcome s ≡ next t → work_steps answer ≡ suc (iterate step_outcome n t).steps
        made t e = ap work_steps told ∙ rw (e, iterate) refl

        go : (r : Step (List ℕ)) → step_outcome s ≡ r → First r
        go (stopped r) e = told ∙ rw (e, iterate) refl
        go (next t) e = omega (arith, made t e)

    -- in a job, it stops exactly where there is no room for its step, and else goes on
    module _ {j : Job} {new : ℕ} (i : InJob j new) (ne : j ≢ idle) where
      abbrev x : Index
      x = decode s

      no_step : NoStep j x → step_outcome s ≡ stopped Stop.NoRoom
      no_step h = (step-stops s Stop.NoRoom).1 ((step-no_room x).1 (subst (λ (q : Job). NoStep q x) (sym i.job) h))

      pub first_stops : (answer ≡ Ok (work_of 0 Stop.NoRoom)) ↔ NoStep j x
      first_stops = (
        λ e. to e (step_outcome s) refl (work-first i.passes),
        λ h. rw (no_step h) at (work-first i.passes),
      )
        where
          to : answer ≡ Ok (work_of 0 Stop.NoRoom) → (r : Step (List ℕ)) → step_outcome s ≡ r → First r → NoStep j x
          to e (next t) k f = absurd (omega (arith, ap work_steps e))
          to e (stopped r) k f =
              let q : r ≡ Stop.NoRoom = (worked-same f e).1 in
              subst (λ (p : Job). NoStep p x) i.job
              ((step-no_room x).0 ((step-stops s Stop.NoRoom).0 (k ∙ ap stopped q)))

      pub first_goes : (1 ≤ work_steps answer) ↔ (NoStep j x → ⊥)
      first_goes = (
        λ g h. omega (arith, ap work_steps (first_stops.1 h)),
        λ h. go h (step_outcome s) refl (work-first i.passes),
      )
        where
          go : (NoStep j x → ⊥) → (r : Step (List ℕ)) → step_outcome s ≡ r → First r → 1 ≤ work_steps answer
          go h (next t) k f = f
          go h (stopped r) k f =
              let e = (step-stops s r).0 k in
              let q = job-stops x (λ p. ne (sym i.job ∙ p)) r e in
              absurd (h (subst (λ (p : Job). NoStep p x) i.job ((step-no_room x).0 (e ∙ ap stopped q))))
