use Rattle.std.proofs.Common.{ap, ◌∙◌, arith}
use Rattle.address.specs.Address.{split_from}
use Rattle.image.specs.Decode.{block_of}
use Rattle.reader.specs.KnownLaws.{known-addressed, max-is, bucket-is}
use Rattle.reader.specs.JobLaws.{old-low}
use Rattle.view.specs.ReadsLaws.{reads_known, reads-max}
use Rattle.split.proofs.cursor.old_home.Goals as goal

pub home_of-requires : goal.home_of-requires
home_of-requires c =
    let k = reads_known c.requires in (known-addressed k, old-low k c.parent_of.result c.parent_of.ensures)

pub returns : goal.returns
returns c =
    let k = reads_known c.requires in
    let low = old-low k c.parent_of.result c.parent_of.ensures in
    c.home_of.ensures
    ∙ bucket-is k c.parent_of.result (omega (arith, max-is k, low))
    ∙ ap (block_of c.args.store.now) (c.parent_of.ensures ∙ ap split_from (reads-max c.requires))
