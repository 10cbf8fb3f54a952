-- An entry put into a chain: the index afterwards, what the code is told of the page, and what it makes of the chain's
-- end.
use Rattle.std.specs.Prelude.{◌≡◌, ◌≢◌, true, List, [], ◌∷◌, ℕ, ◌≤◌}
use Rattle.std.proofs.lemmas.List.Edits.{sets}
use Rattle.lists.specs.Block.{block}
use Rattle.endian.specs.Endian.{le32}
use Rattle.page.specs.declared.Entry.{Entry}
use Rattle.page.specs.Entries.{encode_page}
use Rattle.store.specs.declared.Change.{Change}
use Rattle.model.specs.Index.{Index, chain, set_chain}
use Rattle.model.specs.Pages.{chain_room, add_entry, add_page}
use Rattle.model.specs.Held.{count}
use Rattle.model.specs.WellFormed.{WF}
use Rattle.image.specs.declared.Meta.{Meta}
use Rattle.store.specs.Flags.{no_link}
use Rattle.image.specs.Decode.{decode}
use Rattle.frame.specs.Frame.{page_block, room_place, last_place}
use Rattle.view.specs.Reads.{Reads}
use Rattle.plan.specs.Shape.{Shaped}
use Rattle.plan.specs.Sketch.{Sketch}

-- the blocks of the first page with room in bucket b's chain, and of its last page
abbrev pub room_block : Index → (b : ℕ) → ℕ
room_block x b = page_block x b (room_place (chain x b))

abbrev pub last_block : Index → (b : ℕ) → ℕ
last_block x b = page_block x b (last_place (chain x b))

-- the entry in the first page of bucket b's chain with room
abbrev pub entered : Index → (b : ℕ) → Entry → Index
entered x b e = set_chain x x.spares b (add_entry e (chain x b))

-- the entry in a page of bit n at the chain's end, with the spares sp
abbrev pub extended : Index → (sp : List ℕ) → (b n : ℕ) → Entry → Index
extended x sp b n e = set_chain x sp b (add_page n e (chain x b))

-- block k is the first page with room in bucket b's chain of the index x
pub record RoomIn (x : Index) (b k : ℕ) : Type 0 where
  pub room : chain_room (chain x b) ≡ true
  pub page : k ≡ room_block x b

-- a put into bucket b's chain of the store s leaves the index y, in which n pairs are held
pub record Leaves (s : List ℕ) (m : Meta) (b n : ℕ) (y : Index) : Type 0 where
  pub reads : Reads s m
  pub made : b ≤ m.max
  pub wf : WF y
  pub held : count y ≡ n

-- block k is the first page with room in bucket b's chain
pub record InRoom (s : List ℕ) (m : Meta) (k : ℕ) (e : Entry) (held b : ℕ) : Type 0 where
  pub leaves : Leaves s m b held (entered (decode s) b e)
  pub room : chain_room (chain (decode s) b) ≡ true
  pub page : k ≡ room_block (decode s) b

-- block `last` is the last page of bucket b's chain, which gets a page of bit n
pub record AtEnd (s : List ℕ) (m : Meta) (b last : ℕ) (e : Entry) (held : ℕ) (sp : List ℕ) (n : ℕ) : Type 0 where
  pub leaves : Leaves s m b held (extended (decode s) sp b n e)
  pub page : last ≡ last_block (decode s) b

-- block k is made a page of the one entry, after the page in block `last`, which links to it
pub record Linked (s : List ℕ) (b last k : ℕ) (e : Entry) (r : Change) (images' : List ℕ) : Type 0 where
  pub draft : List ℕ
  pub sketch : Sketch s r images' draft 2 (k ∷ last ∷ [])
  pub page : Shaped (block draft k) (encode_page (e ∷ []) []) last no_link b 1
  pub before : last ≢ k → block draft last ≡ sets (block s last) 496 (le32 k)
