use Rattle.store.specs.Finish.{finished}
use Rattle.store.proofs.finish.Goals as goal

pub returns : goal.returns
unfolding finished
returns c = cc
