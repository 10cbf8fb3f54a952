-- Places among a page's entries, and a run's entries, as the functions of this crate give and take them.
use Rattle.std.specs.Prelude.{cond, List, [], ◌∷◌, ◌++◌, map, ℕ, suc, ◌+◌, ◌*◌, ◌/◌, length, take, drop}
use Rattle.lists.specs.Lists.{up_from}
use Rattle.page.specs.declared.Pair.{Pair}
use Rattle.page.specs.declared.Entry.{Entry}
use Rattle.page.specs.Pair.{before}
use Rattle.page.specs.Entries.{read_entry}

unfoldable pub insert_at : ℕ → Entry → List Entry → List Entry
insert_at k e es = take k es ++ (e ∷ drop k es)

unfoldable pub remove_at : ℕ → List Entry → List Entry
remove_at k es = take k es ++ drop (suc k) es

-- the sorted place of a pair: the number of entries at the front that stand before it
unfoldable pub place_of : Pair → List Entry → ℕ
place_of p [] = 0
place_of p (e ∷ es) = cond (before e.pair p) (suc (place_of p es)) 0

-- the entries of a run, of twelve bytes each; bytes after the last whole twelve are not looked at
unfoldable pub run_entries : List ℕ → List Entry
run_entries r = map (λ (k : ℕ). read_entry r (12 * k)) (up_from 0 (length r / 12))

-- block and offset of a reading as one number: entries of one hash code ascend by it
abbrev pub reading_key : Pair → ℕ
reading_key p = p.block * 65536 + p.offset
