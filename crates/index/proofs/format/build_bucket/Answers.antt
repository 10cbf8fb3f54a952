use Rattle.std.proofs.Common.{refl, ap, ◌∙◌, replicate}
use Rattle.store.specs.Store.{covered}
use Rattle.store.specs.Flags.{no_link}
use Rattle.index.proofs.Bodies.{covered-trailer}
use Rattle.index.proofs.format.build_bucket.Goals as goal

pub returns : goal.returns
returns c =
    ap covered c.put_trailer.ensures
    ∙ covered-trailer (replicate 492 0) (replicate 20 0) 1 no_link c.args.bucket 2 refl refl
