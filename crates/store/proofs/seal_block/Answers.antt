use Rattle.store.proofs.CheckLaws.{sets-check}
use Rattle.store.proofs.seal_block.Goals as goal

pub returns : goal.returns
returns c =
    cc (sets-check c.args.number c.args.k c.args.image.now c.requires)
