use Rattle.std.proofs.Common.{arith}
use Rattle.address.specs.OverLaws.{buckets-mono}
use Rattle.address.specs.Limits.{max_blocks}
use Rattle.meta.specs.Addressed.{max-under, home-inside}
use Rattle.reader.proofs.roles.home_of.Goals as goal

pub bucket_block-requires : goal.bucket_block-requires
bucket_block-requires c =
    let m = c.args.m in
    let a = c.requires.0 in (
      omega (arith, c.requires.1, max-under max_blocks m a, buckets-mono m.point 16 (omega (arith, a.low))),
      omega (arith, home-inside max_blocks m a c.args.b c.requires.1),
    )
