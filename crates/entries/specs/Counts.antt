-- Rule 8, part by part.
use Rattle.std.specs.Prelude.{Bool, true, not, ◌&&◌, List, ℕ, eqb}
use Rattle.lists.specs.Block.{block}
use Rattle.address.specs.Address.{bucket_of, last_split}
use Rattle.page.specs.declared.Entry.{Entry}
use Rattle.store.specs.Store.{prev_at}
use Rattle.model.specs.declared.Phase.{Phase}
use Rattle.image.specs.Decode.{max_at, block_of}

-- the previous field of the page of bucket b
abbrev pub prev_ok : List ℕ → ℕ → Bool
prev_ok s b = eqb (prev_at (block s (block_of s b))) (last_split (max_at s) b)

-- whether an entry in the chain of bucket b is a held one, and no copy or rest of a split
abbrev pub live_in : Phase → (max b : ℕ) → Entry → Bool
live_in Phase.None max b e = true
live_in (Phase.Copying old new) max b e = not (eqb b new && e.moved)
live_in (Phase.Clearing old new) max b e = eqb (bucket_of max e.pair.hash) b
