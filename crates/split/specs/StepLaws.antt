-- What a step is, by the job and by what its tests find; and what a planned put comes to as a step.
use Rattle.std.specs.Prelude.{◌≡◌, Bool, true, false, Result as Outcome, Ok, Err, List, ℕ, cond, refl}
use Rattle.std.proofs.Common.{sym, ◌∙◌, subst}
use Rattle.std.proofs.Math.Path.{ap}
use Rattle.std.proofs.Math.Option.{Option}
use Rattle.lists.specs.Lists.{find}
use Rattle.page.specs.declared.Entry.{Entry}
use Rattle.store.specs.declared.Change.{Change}
use Rattle.model.specs.declared.Stop.{Stop}
use Rattle.model.specs.declared.Phase.{Phase}
use Rattle.model.specs.Index.{Job, idle, copying, clearing, Index, entries_at, new_bucket, old_bucket}
use Rattle.model.specs.Held.{wanted}
use Rattle.model.specs.Steps.{Step, stopped, or_full, begin, moves, to_copy, copy_in, clear_in, step_in, step}
use Rattle.model.proofs.MachineLaws.{never}
use Rattle.model.specs.PhaseLaws.{job_in, job-phase}
use Rattle.reader.specs.Job.{phase_of}
use Rattle.plan.specs.Plan.{Advances, advanced, halted, Places, placed, full}

-- ---- the step of an index

module _ (x : Index) where
  pub step-rests : x.job ≡ idle → wanted x ≡ false → step x ≡ stopped Stop.Idle
  unfolding step
  step-rests j w = ap (λ (k : Job). step_in k (wanted x) x) j ∙ ap (λ (b : Bool). step_in idle b x) w

  pub step-begins : x.job ≡ idle → wanted x ≡ true → step x ≡ or_full (begin x)
  unfolding step
  step-begins j w = ap (λ (k : Job). step_in k (wanted x) x) j ∙ ap (λ (b : Bool). step_in idle b x) w

  pub step-copies : x.job ≡ copying → {f : Option Entry} → find (to_copy x) (entries_at x (old_bucket x)) ≡ f
      → step x ≡ copy_in f x
  unfolding step
  step-copies j e = ap (λ (k : Job). step_in k (wanted x) x) j ∙ ap (λ (g : Option Entry). copy_in g x) e

  pub step-clears : x.job ≡ clearing → {f : Option Entry} → find (moves x) (entries_at x (old_bucket x)) ≡ f
      → step x ≡ clear_in f x
  unfolding step
  step-clears j e = ap (λ (k : Job). step_in k (wanted x) x) j ∙ ap (λ (g : Option Entry). clear_in g x) e

-- the job, by the phase that is read
pub job-at : (x : Index) (p : Phase) → p ≡ phase_of x → x.job ≡ job_in p
job-at x p e = sym (ap job_in e ∙ job-phase x.job (old_bucket x) (new_bucket x))

-- ---- its plan

module _ {s : List ℕ} {c : Change} {images : List ℕ} where
  -- a put, or a begin, that has room
  pub places-next : {X : Type 0} {o : Option Index} {room : Bool} → Places s c images o room → room ≡ true → (x : X)
      → Advances s c images (or_full o) (Ok x)
  places-next (placed p) e x = advanced p
  places-next (full z) e x = never (cc)

  -- or none
  pub places-stop : {X : Type 0} {o : Option Index} {room : Bool} → Places s c images o room → room ≡ false
      → Advances s c images {X = X} (or_full o) (Err Stop.NoRoom)
  places-stop (placed p) e = never (cc)
  places-stop (full z) e = halted z

  -- the two as one
  pub places-advances : {X : Type 0} {o : Option Index} {room : Bool} → Places s c images o room → (x : X)
      → Advances s c images (or_full o) (cond room (Ok x) (Err Stop.NoRoom))
  places-advances (placed p) x = advanced p
  places-advances (full z) x = halted z

  -- the plan r, whose parts are another's
  pub advances-as : {X : Type 0} {r : Change} {n t : Step Index} {a b : Outcome X Stop} → Advances s c images n a
      → r ≡ c → b ≡ a → t ≡ n → Advances s r images t b
  advances-as {X} {r} {n} {t} {a} {b} h q e k =
      subst (λ (d : Change). Advances s d images t b) (sym q)
      (subst (λ (d : Outcome X Stop). Advances s c images t d) (sym e)
      (subst (λ (d : Step Index). Advances s c images d a) (sym k) h))

  -- the step t is another's
  pub advances-at : {X : Type 0} {n t : Step Index} {a : Outcome X Stop} → Advances s c images n a → t ≡ n
      → Advances s c images t a
  advances-at h e = advances-as h refl refl e
