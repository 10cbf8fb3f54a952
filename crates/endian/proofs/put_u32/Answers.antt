use Rattle.std.proofs.Common.{◌∙◌, arith, ◌≡◌}
use Rattle.endian.specs.Endian.{le32}
use Rattle.endian.proofs.EndianLaws.{length-le32}
use Rattle.endian.proofs.PutLaws.{put_mid-sets, to_le_bytes-le32}
use Rattle.endian.proofs.put_u32.Goals as goal

pub returns : goal.returns
returns c =
    let a = c.args in
    let bytes : c.copy_from_slice.new.self ≡ le32 a.v =
    c.copy_from_slice.ensures.after ∙ c.to_le_bytes.ensures ∙ to_le_bytes-le32 a.v in
    rw bytes (put_mid-sets a.s.now (le32 a.v) a.at _ (omega (arith, length-le32 a.v)) (omega (arith, length-le32 a.v)))
