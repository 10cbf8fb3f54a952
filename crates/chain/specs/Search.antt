-- Searches along a chain, given as a list of blocks, of any bytes: a pair and its place, the first page with room.
use Rattle.std.specs.Prelude.{Bool, true, false, cond, List, ℕ, Option, Some, None}
use Rattle.std.proofs.Math.Option.{Option as Maybe, none, some}
use Rattle.lists.specs.Lists.{any, find}
use Rattle.page.specs.declared.Pair.{Pair}
use Rattle.page.specs.declared.Entry.{Entry}
use Rattle.page.specs.Pair.{is}
use Rattle.page.specs.Places.{place_of}
use Rattle.model.specs.Pages.{has_room}
use Rattle.chain.specs.declared.Found.{Found}
use Rattle.chain.specs.declared.Room.{Room}
use Rattle.chain.specs.Walk.{last_of}
use Rattle.chain.specs.Within.{entries_on}

-- the slot of a pair among a page's entries
unfoldable pub slot_in : List Entry → Pair → Option ℕ
slot_in es p = cond (any (is p) es) (Some (place_of p es)) None

abbrev pub room_as : (last : ℕ) → Maybe ℕ → Room
room_as last none = Room.Full last
room_as last (some k) = Room.Page k

-- a pair found in slot n of block k
abbrev pub at_slot : (k n : ℕ) → Option Found
at_slot k n = Some (record { block = k; slot = n })

module _ (s : List ℕ) where
  -- whether block k has the pair, and whether it has "fewer than 40 entries"
  abbrev pub pair_on : Pair → ℕ → Bool
  pair_on p k = any (is p) (entries_on s k)

  abbrev pub room_on : ℕ → Bool
  room_on k = has_room (entries_on s k)

  abbrev pub found_as : Pair → Maybe ℕ → Option Found
  found_as p none = None
  found_as p (some k) = at_slot k (place_of p (entries_on s k))

  -- the first page that has the pair, and the pair's place in it
  unfoldable pub find_in : List ℕ → Pair → Option Found
  find_in ks p = found_as p (find (pair_on p) ks)

  -- the first page with room, else the last block
  unfoldable pub room_in : List ℕ → Room
  room_in ks = room_as (last_of ks) (find room_on ks)

abbrev pub is_page : Room → Bool
is_page (Room.Page k) = true
is_page (Room.Full k) = false
