use Rattle.std.proofs.Common.{arith}
use Rattle.store.specs.Change.{stored}
use Rattle.store.proofs.Parts.{length-of-block}
use Rattle.store.proofs.commit_one.Goals as goal

pub put_block-requires : goal.put_block-requires
put_block-requires c =
    (c.requires.n_bound.1, length-of-block _ c.args.images.now _ c.block_at.ensures (omega arith))

pub returns : goal.returns
unfolding stored
returns c = cc
