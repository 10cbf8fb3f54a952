use Rattle.cuts.specs.Journalled.{insert_journalled}
use Rattle.index.proofs.journalled.insert.Goals as goal

pub returns : goal.returns
unfolding insert_journalled
returns c = c.call_with.ensures
