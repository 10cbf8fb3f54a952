use Rattle.std.proofs.Common.{refl}
use Rattle.crc32c.specs.Table.{byte_table}
use Rattle.crc32c.proofs.table.byte_table.Goals as goal

-- the 256 numbers of the code are computed and compared here
pub returns : goal.returns
unfolding byte_table
returns c = refl
