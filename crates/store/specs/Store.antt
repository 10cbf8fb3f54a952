-- A block's trailer and check. docs/RULES.md 3.2: "Bytes 492..507 of every block but an unused one: previous (u32),
-- next (u32), bucket (u32), flags (u16), page id 0xFF80 (u16). Bytes 508..511: the check, CRC-32C (RFC 3720) of the
-- store number, then the block's own number (both u32), then bytes 0..507."
use Rattle.std.specs.Prelude.{Bool, List, ◌++◌, ℕ, eqb, take}
use Rattle.lists.specs.Block.{block}
use Rattle.endian.specs.Endian.{le16, le32, u16_at, u32_at}
use Rattle.crc32c.specs.Crc.{crc_of}
use Rattle.store.specs.Flags.{page_id}

-- ---- the trailer's fields, of a block's bytes

abbrev pub prev_at : List ℕ → ℕ
prev_at l = u32_at l 492

abbrev pub next_at : List ℕ → ℕ
next_at l = u32_at l 496

abbrev pub bucket_at : List ℕ → ℕ
bucket_at l = u32_at l 500

abbrev pub flags_at : List ℕ → ℕ
flags_at l = u16_at l 504

abbrev pub id_at : List ℕ → ℕ
id_at l = u16_at l 506

-- bytes 492..507
unfoldable pub trailer : (prev next bucket flags : ℕ) → List ℕ
trailer prev next bucket flags = le32 prev ++ (le32 next ++ (le32 bucket ++ (le16 flags ++ le16 page_id)))

-- ---- the check

-- a block's body
unfoldable pub covered : List ℕ → List ℕ
covered l = take 508 l

-- the check that block k of the store with this number should have
unfoldable pub check_of : (number k : ℕ) → List ℕ → ℕ
check_of number k l = crc_of (le32 number ++ (le32 k ++ covered l))

-- the block with its check written
unfoldable pub sealed : (number k : ℕ) → List ℕ → List ℕ
sealed number k l = covered l ++ le32 (check_of number k l)

-- whether a block's check is right
unfoldable pub checks : (number k : ℕ) → List ℕ → Bool
checks number k l = eqb (u32_at l 508) (check_of number k l)

-- "The store number in bytes 104..107 of block 0 is the one used for all blocks"
unfoldable pub number_at : List ℕ → ℕ
number_at s = u32_at (block s 0) 104

-- whether the check of block k is right
unfoldable pub checked : List ℕ → ℕ → Bool
checked s k = checks (number_at s) k (block s k)
