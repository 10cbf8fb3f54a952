use Rattle.store.specs.Finish.{finished_as}
use Rattle.store.proofs.finish_as.Goals as goal

pub returns : goal.returns
unfolding finished_as
returns c = cc
