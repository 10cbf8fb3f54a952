use Rattle.crc32c.specs.FoursLaws.{crc_of-words}
use Rattle.crc32c.proofs.crc32c_after.Goals as goal

pub returns : goal.returns
returns c =
    let a = c.args in
    cc (crc_of-words a.first a.second a.s.now)
