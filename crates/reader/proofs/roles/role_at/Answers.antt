use Rattle.std.proofs.Common.{arith, suc, take, ◌^◌}
use Rattle.address.specs.AgreeLaws.{spares-wider}
use Rattle.address.specs.Limits.{max_blocks}
use Rattle.reader.proofs.roles.role_at.Goals as goal

pub role_of-requires : goal.role_of-requires
role_of-requires c =
    let m = c.args.m in
    (c.requires.low, spares-wider (take (suc m.point) m.spares) m.point max_blocks (2 ^ 32) (omega arith) c.requires.spares)
