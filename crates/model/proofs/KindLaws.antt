-- A step of whatever kind keeps the index well-formed, N and the store number.
use Rattle.std.specs.Prelude.{◌≡◌}
use Rattle.model.specs.Index.{Index}
use Rattle.model.specs.Steps.{next}
use Rattle.model.specs.Machine.{Kind, of_splits, of_squeeze, step_index}
use Rattle.model.specs.WellFormed.{WF}
use Rattle.model.proofs.StepLaws.{step-wf}
use Rattle.model.proofs.FrameLaws.{SameStore, step-store, squeeze-frame}
use Rattle.model.proofs.SqueezeStepLaws.{squeeze-wf}

pub kind-wf : (k : Kind) (x y : Index) → WF x → step_index k x ≡ next y → WF y
kind-wf of_splits = step-wf
kind-wf (of_squeeze b) = squeeze-wf b

pub kind-store : (k : Kind) (x y : Index) → step_index k x ≡ next y → SameStore x y
kind-store of_splits x y e = step-store x y e
kind-store (of_squeeze b) x y e = let f = (squeeze-frame b x y e).frame in record { size = f.size; number = f.number }
