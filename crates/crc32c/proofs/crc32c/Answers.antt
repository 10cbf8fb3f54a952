use Rattle.crc32c.specs.Crc.{crc_of}
use Rattle.crc32c.proofs.crc32c.Goals as goal

pub returns : goal.returns
unfolding crc_of
returns c = cc
