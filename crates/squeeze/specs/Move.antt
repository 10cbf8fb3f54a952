-- What the code is told of the pages of a squeeze's step.
use Rattle.std.specs.Prelude.{◌≡◌, List, ℕ, ◌≤◌}
use Rattle.std.proofs.Math.Option.{some}
use Rattle.page.specs.declared.Entry.{Entry}
use Rattle.model.specs.Index.{chain}
use Rattle.model.specs.Squeeze.{mover}
use Rattle.image.specs.declared.Meta.{Meta}
use Rattle.image.specs.Decode.{decode}
use Rattle.chain.specs.Search.{at_slot}
use Rattle.view.specs.Reads.{Reads}
use Rattle.view.specs.Places.{find_at}
use Rattle.insertion.specs.Put.{RoomIn}

-- e is the entry that a step moves, out of slot `slot` of block `last`; block `target` is the first page with room
pub record Movable (s : List ℕ) (m : Meta) (b : ℕ) (e : Entry) (last slot target : ℕ) : Type 0 where
  pub reads : Reads s m
  pub made : b ≤ m.max
  pub moves : mover (chain (decode s) b) ≡ some e
  pub found : find_at (decode s) b e.pair ≡ at_slot last slot
  pub room : RoomIn (decode s) b target
