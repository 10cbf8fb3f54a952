use Rattle.image.specs.Decode.{read_meta}
use Rattle.meta.proofs.read_meta.Goals as goal

pub returns : goal.returns
unfolding read_meta
returns c = cc
