-- A page whose entries have the codes 5, 7, 7 and 9: the run of a code and the number of entries before it, computed.
use Rattle.std.specs.Prelude.{◌≡◌, refl, true, false, List, [], ◌∷◌, map, ℕ, replicate}
use Rattle.lists.specs.Bytes.{part, all_zero}
use Rattle.endian.specs.Endian.{le16, le32, u16_at, u32_at}
use Rattle.page.specs.declared.Entry.{Entry}
use Rattle.page.specs.Entries.{encode_entry, encode_page, read_entry, entry_at, entries_from, entries_of}
use Rattle.page.specs.PageLaws.{encode_entries}
use Rattle.page.specs.Run.{run_start, run_length, run_of}
use Rattle.page.specs.Rule.{number_ok, flags_ok, numbers_ok, order_ok, rest_zero, page_ok}

a : Entry
a = record { pair = record { hash = 5; block = 90; offset = 3 }; moved = false }

b : Entry
b = record { pair = record { hash = 7; block = 12; offset = 1 }; moved = true }

c : Entry
c = record { pair = record { hash = 7; block = 12; offset = 2 }; moved = false }

d : Entry
d = record { pair = record { hash = 9; block = 0; offset = 8 }; moved = false }

page : List ℕ
page = encode_page (a ∷ b ∷ c ∷ d ∷ []) (replicate 20 0)

abbrev codes : List ℕ
codes = 4 ∷ 5 ∷ 6 ∷ 7 ∷ 9 ∷ 10 ∷ []

kept : page_ok page ≡ true
unfolding page a b c d page_ok number_ok rest_zero numbers_ok order_ok flags_ok part all_zero
    entries_of entries_from entry_at read_entry encode_page encode_entry le16 le32 u16_at u32_at
kept = refl

starts : map (λ (h : ℕ). run_start h (entries_of page)) codes ≡ 0 ∷ 0 ∷ 1 ∷ 1 ∷ 3 ∷ 4 ∷ []
unfolding page a b c d run_start
    entries_of entries_from entry_at read_entry encode_page encode_entry le16 le32 u16_at u32_at
starts = refl

runs : map (λ (h : ℕ). run_of h page) codes
    ≡ [] ∷ encode_entries (a ∷ []) ∷ [] ∷ encode_entries (b ∷ c ∷ []) ∷ encode_entries (d ∷ []) ∷ [] ∷ []
unfolding page a b c d run_of run_start run_length part
    entries_of entries_from entry_at read_entry encode_page encode_entry le16 le32 u16_at u32_at
runs = refl
