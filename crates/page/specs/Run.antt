-- The run of a hash code in a page. docs/RULES.md 3.10: "the run of entries that have the hash code, as a part of the
-- page and not a copy, empty at its sorted place if there are none; a call beside it gives the number of entries
-- before that run or place"
use Rattle.std.specs.Prelude.{Bool, List, ℕ, ◌+◌, ◌*◌, eqb, ltb}
use Rattle.lists.specs.Lists.{tally, keep, bind}
use Rattle.lists.specs.Bytes.{part}
use Rattle.page.specs.declared.Entry.{Entry}
use Rattle.page.specs.Entries.{encode_entry, entries_of}

abbrev pub has_code : ℕ → Entry → Bool
has_code h e = eqb e.pair.hash h

-- "the number of entries before that run or place"
unfoldable pub run_start : ℕ → List Entry → ℕ
run_start h es = tally (λ (e : Entry). ltb e.pair.hash h) es

-- the number of entries that have the hash code
unfoldable pub run_length : ℕ → List Entry → ℕ
run_length h es = tally (has_code h) es

-- "the run .. as a part of the page": the bytes of its slots
unfoldable pub run_of : ℕ → List ℕ → List ℕ
run_of h l =
    let start = run_start h (entries_of l) in
    let end = start + run_length h (entries_of l) in
    part (4 + 12 * start) (4 + 12 * end) l

-- the bytes of the "entries that have the hash code", one after the other: in a page that keeps the page rule, the run
abbrev pub bytes_with_code : ℕ → List ℕ → List ℕ
bytes_with_code h l = bind (keep (has_code h) (entries_of l)) encode_entry
