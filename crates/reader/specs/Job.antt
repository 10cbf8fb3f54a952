-- The job's phase as the code gives it.
use Rattle.std.specs.Prelude.{List, ℕ}
use Rattle.model.specs.declared.Phase.{Phase}
use Rattle.model.specs.Index.{Index, old_bucket, new_bucket}
use Rattle.model.specs.Calls.{phase_in}
use Rattle.image.specs.Decode.{decode}

-- "the job's phase with its two bucket numbers"
abbrev pub phase_of : Index → Phase
phase_of x = phase_in x.job (old_bucket x) (new_bucket x)

-- of the index that the store is read as
abbrev pub phase_at : List ℕ → Phase
phase_at s = phase_of (decode s)
