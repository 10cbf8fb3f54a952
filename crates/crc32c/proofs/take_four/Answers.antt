use Rattle.std.proofs.Common.{rules}
use Rattle.crc32c.specs.FoursLaws.{crc_bytes-four}
use Rattle.crc32c.proofs.take_four.Goals as goal

pub returns : goal.returns
returns c =
    let a = c.args in
    cc (crc_bytes-four a.c a.w (search rules))
