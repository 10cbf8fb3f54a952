use Rattle.std.proofs.Common.{◌≡◌, length, arith, rules}
use Rattle.endian.proofs.PutLaws.{put_mid-zeros}
use Rattle.meta.proofs.Front.{front-sets}
use Rattle.meta.proofs.put_meta.Goals as goal

pub returns : goal.returns
returns c =
    let zeros = put_mid-zeros c.put_u32.new.s c.fill.new.self 108 384 (omega arith) (c.fill.ensures.after (λ y e. e)) in
    let sixteen : length c.args.m.spares ≡ 16 = search rules in
    cc (zeros, front-sets c.args.m (search rules) c.args.part.now c.requires sixteen)
