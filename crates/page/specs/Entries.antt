-- The entries of a page as bytes. docs/RULES.md 3.5: "number of entries (u16) at 0, up to 40 entries of 12 bytes
-- from 4: hash, reading block, offset, entry flags (0, or 0x2000 for "moved by split")."
use Rattle.std.specs.Prelude.{Bool, true, false, List, [], ◌∷◌, ◌++◌, ℕ, zero, suc, ◌+◌, ◌-◌, ◌*◌, eqb, length, replicate}
use Rattle.lists.specs.Lists.{bind}
use Rattle.endian.specs.Endian.{le16, le32, u16_at, u32_at}
use Rattle.page.specs.declared.Entry.{Entry}

-- ---- writing

abbrev pub entry_flags : Bool → ℕ
entry_flags true = 0x2000
entry_flags false = 0

-- the twelve bytes of an entry
unfoldable pub encode_entry : Entry → List ℕ
encode_entry e =
    le32 e.pair.hash ++ (le32 e.pair.block ++ (le16 e.pair.offset ++ le16 (entry_flags e.moved)))

-- bytes 0 to 491 of a page, with `tail` after them
unfoldable pub encode_page : List Entry → List ℕ → List ℕ
encode_page es tail =
    le16 (length es) ++ (le16 0 ++ (bind es encode_entry ++ (replicate (488 - 12 * length es) 0 ++ tail)))

-- ---- reading, of any bytes

-- the entry whose twelve bytes begin at place i
unfoldable pub read_entry : List ℕ → ℕ → Entry
read_entry l i =
    record {
      pair = record { hash = u32_at l i; block = u32_at l (i + 4); offset = u16_at l (i + 8) };
      moved = eqb (u16_at l (i + 10)) 0x2000;
    }

-- the entry in slot k of a page
unfoldable pub entry_at : List ℕ → ℕ → Entry
entry_at l k = read_entry l (4 + 12 * k)

-- the n entries from slot k on
unfoldable pub entries_from : List ℕ → ℕ → ℕ → List Entry
entries_from l k zero = []
entries_from l k (suc n) = entry_at l k ∷ entries_from l (suc k) n

-- the entries that a page says it has
unfoldable pub entries_of : List ℕ → List Entry
entries_of l = entries_from l 0 (u16_at l 0)
