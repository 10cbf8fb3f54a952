use Rattle.std.proofs.Common.{Bool, sym, subst, arith}
use Rattle.image.specs.Decode.{decode}
use Rattle.view.specs.ReadsLaws.{reads_known}
use Rattle.split.specs.Mover.{Copies}
use Rattle.split.specs.MoverLaws.{walks-copies}
use Rattle.split.proofs.search.walk_copies.Goals as goal

pub walk_bucket-requires : goal.walk_bucket-requires
walk_bucket-requires c = (reads_known c.requires.0, omega arith, c.requires.1)

pub returns : goal.returns
returns c =
    subst (λ (f : Bool). Copies f (decode c.args.store.now) c.walk_bucket.new.blocks c.walk_bucket.result)
    (sym c.if-fresh.false) (walks-copies c.requires.0 c.walk_bucket.ensures)
