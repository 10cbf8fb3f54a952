use Rattle.cuts.specs.Halves.{plan_insert}
use Rattle.index.proofs.halves.plan_insert.Goals as goal

pub returns : goal.returns
unfolding plan_insert
returns c = c.plan_call.ensures
