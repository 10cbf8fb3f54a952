use Rattle.store.proofs.Parts.{part-block}
use Rattle.store.proofs.block_at.Goals as goal

pub returns : goal.returns
returns c = let a = c.args in part-block a.store.now a.k
