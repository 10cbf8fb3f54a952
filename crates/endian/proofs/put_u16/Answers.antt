use Rattle.std.proofs.Common.{◌∙◌, arith, ◌≡◌}
use Rattle.endian.specs.Endian.{le16}
use Rattle.endian.proofs.EndianLaws.{length-le16}
use Rattle.endian.proofs.PutLaws.{put_mid-sets, to_le_bytes-le16}
use Rattle.endian.proofs.put_u16.Goals as goal

pub returns : goal.returns
returns c =
    let a = c.args in
    let bytes : c.copy_from_slice.new.self ≡ le16 a.v =
    c.copy_from_slice.ensures.after ∙ c.to_le_bytes.ensures ∙ to_le_bytes-le16 a.v in
    rw bytes (put_mid-sets a.s.now (le16 a.v) a.at _ (omega (arith, length-le16 a.v)) (omega (arith, length-le16 a.v)))
