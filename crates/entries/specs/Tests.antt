-- What the parts of the tests of rule 7 answer.
use Rattle.std.specs.Prelude.{Bool, true, ◌&&◌, ◌||◌, List, ℕ, eqb}
use Rattle.std.specs.Bool.{beq}
use Rattle.lists.specs.Lists.{any, all}
use Rattle.page.specs.declared.Entry.{Entry}
use Rattle.page.specs.Pair.{is}
use Rattle.model.specs.declared.Phase.{Phase}
use Rattle.model.specs.Index.{entries_at}
use Rattle.image.specs.Decode.{decode}

-- rule 7: an entry that maps to bucket h may stand in the chain of bucket b
abbrev pub stands_in : Phase → (h b : ℕ) → Bool
stands_in Phase.None h b = eqb h b
stands_in (Phase.Copying old new) h b = eqb h b || (eqb b old && eqb h new)
stands_in (Phase.Clearing old new) h b = eqb h b || (eqb b old && eqb h new)

-- rule 7: an entry of the new chain is marked moved exactly if the old chain has its pair
abbrev pub marked_by : List Entry → Entry → Bool
marked_by old e = beq e.moved (any (is e.pair) old)

-- while copying, so is each
abbrev pub marks_in : List ℕ → Phase → Bool
marks_in s Phase.None = true
marks_in s (Phase.Copying old new) = all (marked_by (entries_at (decode s) old)) (entries_at (decode s) new)
marks_in s (Phase.Clearing old new) = true
