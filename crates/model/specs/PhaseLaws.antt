-- The job of a phase, back from what standing gives.
use Rattle.std.specs.Prelude.{◌≡◌, refl, ℕ}
use Rattle.model.specs.declared.Phase.{Phase}
use Rattle.model.specs.Index.{Job, idle, copying, clearing}
use Rattle.model.specs.Calls.{phase_in}

abbrev pub job_in : Phase → Job
job_in Phase.None = idle
job_in (Phase.Copying old new) = copying
job_in (Phase.Clearing old new) = clearing

pub job-phase : (j : Job) (old new : ℕ) → job_in (phase_in j old new) ≡ j
job-phase idle o n = refl
job-phase copying o n = refl
job-phase clearing o n = refl
