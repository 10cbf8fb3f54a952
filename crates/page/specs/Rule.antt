-- The page rule, as a test on any 512 bytes. docs/RULES.md 3.5: "up to 40 entries .. strictly ascending by hash, then
-- block, then offset. No entry has offset 0 or reading block 4294967295. Unused bytes zero."
use Rattle.std.specs.Prelude.{Bool, not, ◌&&◌, ◌||◌, List, ℕ, ◌+◌, ◌*◌, eqb, leb}
use Rattle.lists.specs.Lists.{all, up_from}
use Rattle.lists.specs.Bytes.{part, all_zero}
use Rattle.endian.specs.Endian.{u16_at}
use Rattle.page.specs.declared.Entry.{Entry}
use Rattle.page.specs.Pair.{bad_pair, ascending}
use Rattle.page.specs.Entries.{entries_of}

-- at most 40 entries
unfoldable pub number_ok : List ℕ → Bool
number_ok l = leb (u16_at l 0) 40

-- entry flags are 0, or 0x2000 for "moved by split"
unfoldable pub flags_ok : List ℕ → ℕ → Bool
flags_ok l k = eqb (u16_at l (4 + 12 * k + 10)) 0 || eqb (u16_at l (4 + 12 * k + 10)) 0x2000

-- each entry's numbers and flags
unfoldable pub numbers_ok : List ℕ → Bool
numbers_ok l = all (λ (e : Entry). not (bad_pair e.pair)) (entries_of l) && all (flags_ok l) (up_from 0 (u16_at l 0))

unfoldable pub order_ok : List ℕ → Bool
order_ok l = ascending (λ (e : Entry). e.pair) (entries_of l)

-- bytes 2 and 3, and those from the last entry up to the trailer
unfoldable pub rest_zero : List ℕ → Bool
rest_zero l = eqb (u16_at l 2) 0 && all_zero (part (4 + 12 * u16_at l 0) 492 l)

unfoldable pub page_ok : List ℕ → Bool
page_ok l = number_ok l && (rest_zero l && (numbers_ok l && order_ok l))
