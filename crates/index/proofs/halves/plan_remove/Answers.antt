use Rattle.cuts.specs.Halves.{plan_remove}
use Rattle.index.proofs.halves.plan_remove.Goals as goal

pub returns : goal.returns
unfolding plan_remove
returns c = c.plan_call.ensures
