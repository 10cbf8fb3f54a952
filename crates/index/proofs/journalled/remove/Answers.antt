use Rattle.cuts.specs.Journalled.{remove_journalled}
use Rattle.index.proofs.journalled.remove.Goals as goal

pub returns : goal.returns
unfolding remove_journalled
returns c = c.call_with.ensures
