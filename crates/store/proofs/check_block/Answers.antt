use Rattle.store.specs.Store.{checks}
use Rattle.store.proofs.check_block.Goals as goal

pub returns : goal.returns
unfolding checks
returns c = cc
