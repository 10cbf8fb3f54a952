use Rattle.lists.specs.BytesLaws.{sets-append}
use Rattle.endian.specs.Endian.{le16, le32}
use Rattle.view.proofs.lookup.put_place.Goals as goal

pub returns : goal.returns
unfolding le32
returns c =
    cc (sets-append (le32 c.args.p.block) (le16 c.args.p.offset) c.args.output.now c.args.at)
