-- Where a squeeze's step takes its entry from, and which page it goes to.
use Rattle.std.specs.Prelude.{Bool, cond, not, ◌&&◌, Option, Some, None, ℕ, eqb}
use Rattle.model.specs.Index.{Chain, Index, chain}
use Rattle.model.specs.Pages.{chain_room}
use Rattle.frame.specs.Frame.{room_place, last_place}
use Rattle.insertion.specs.Put.{room_block, last_block}
use Rattle.squeeze.specs.declared.Spot.{Spot}

-- the first page with room is not the last page
abbrev pub room_before : Chain → Bool
room_before c = chain_room c && not (eqb (room_place c) (last_place c))

-- the chain's last page and its first page with room, where those are two
unfoldable pub spot_at : Index → (b : ℕ) → Option Spot
spot_at x b =
    cond (room_before (chain x b)) (Some (record { last = last_block x b; target = room_block x b })) None
