-- The table of the check (docs/RULES.md 3.8).
use Rattle.std.specs.Prelude.{List, map, ℕ}
use Rattle.lists.specs.Lists.{up_from}
use Rattle.crc32c.specs.Crc.{crc_bits}

-- "a table of 256 numbers. Each number is what eight single-bit steps of RFC 3720's check make of its index."
unfoldable pub byte_table : List ℕ
unfolding crc_bits
byte_table = map (crc_bits 8) (up_from 0 256)
