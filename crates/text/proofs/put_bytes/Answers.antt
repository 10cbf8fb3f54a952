use Rattle.std.proofs.Common.{refl}
use Rattle.text.proofs.Parts.{put-part}
use Rattle.text.proofs.put_bytes.Goals as goal

pub returns : goal.returns
returns c =
    let p = c.copy_from_slice in
    record {
      bytes = put-part c.args.output.now c.args.at c.args.bytes.now _ c.requires p.ensures.after;
      ends = refl;
      fits = c.requires;
    }
