-- What a put comes to, by the page that it finds: the plan of the index that is left, or no room.
use Rattle.std.proofs.Math.Path.{◌≡◌, refl}
use Rattle.std.proofs.Common.{sym, subst, arith}
use Rattle.std.specs.Prelude.{Bool, cond, List, ℕ, ◌≤◌, ◌<◌, Some, None}
use Rattle.std.proofs.Math.Bool.{true, false}
use Rattle.std.proofs.Math.Option.{Option, none, some}
use Rattle.lists.specs.Block.{block}
use Rattle.address.specs.Address.{point, made}
use Rattle.page.specs.declared.Entry.{Entry}
use Rattle.store.specs.declared.Change.{Change}
use Rattle.model.specs.Index.{Index, chain, top_bit}
use Rattle.model.specs.Pages.{chain_room, free_bit, put}
use Rattle.model.specs.Held.{count}
use Rattle.model.specs.WellFormed.{Laid, WF}
use Rattle.image.specs.declared.Meta.{Meta}
use Rattle.image.specs.Layout.{map_bit}
use Rattle.image.specs.Decode.{bit_of, decode}
use Rattle.frame.specs.Frame.{map_block}
use Rattle.frame.specs.ChainLaws.{Free as IsFree}
use Rattle.frame.specs.FreshLaws.{more_spares}
use Rattle.chain.specs.declared.Room.{Room}
use Rattle.chain.specs.Bitmap.{lowest_free}
use Rattle.view.specs.Reads.{Reads}
use Rattle.view.specs.ReadsLaws.{reads-laid}
use Rattle.view.specs.Places.{room_at}
use Rattle.plan.specs.Plan.{Plans, Places, placed, full}
use Rattle.plan.specs.StoreLaws.{map-shape}
use Rattle.insertion.specs.Put.{room_block, last_block, extended, RoomIn, Leaves, InRoom, AtEnd}
use Rattle.plan.specs.FieldLaws.{read-size, read_made}
use Rattle.insertion.specs.FreeLaws.{bits-shaped, free-read, none_read}
use Rattle.insertion.specs.PutLaws.{put-room, put-free, put-fresh, put_full}

-- ---- from a put to its places

module _ {s : List ℕ} {c : Change} {images : List ℕ} {o : Option Index} where
  pub places-some : {y : Index} → o ≡ some y → Plans s c images y → Places s c images o true
  places-some e p = subst (λ (r : Option Index). Places s c images r true) (sym e) (placed p)

  pub places-none : o ≡ none → c.count ≡ 0 → Places s c images o false
  places-none e z = subst (λ (r : Option Index). Places s c images r false) (sym e) (full z)

-- ---- what room_in finds

module _ (x : Index) (b : ℕ) where
  -- no room, and the last page
  pub record NoRoomIn (k : ℕ) : Type 0 where
    pub room : chain_room (chain x b) ≡ false
    pub page : k ≡ last_block x b

  abbrev found : Bool → Room
  found t = cond t (Room.Page (room_block x b)) (Room.Full (last_block x b))

  pub room_at-page : (k : ℕ) → room_at x b ≡ Room.Page k → RoomIn x b k
  unfolding room_at
  room_at-page k h = go (chain_room (chain x b)) refl h
    where
      go : (t : Bool) → chain_room (chain x b) ≡ t → found t ≡ Room.Page k → RoomIn x b k
      go true e h = record { room = e; page = cc }
      go false e h = let z : ◌≡◌ {A = ℕ} 0 1 = cc in absurd (omega arith)

  pub room_at-full : (k : ℕ) → room_at x b ≡ Room.Full k → NoRoomIn k
  unfolding room_at
  room_at-full k h = go (chain_room (chain x b)) refl h
    where
      go : (t : Bool) → chain_room (chain x b) ≡ t → found t ≡ Room.Full k → NoRoomIn k
      go true e h = let z : ◌≡◌ {A = ℕ} 0 1 = cc in absurd (omega arith)
      go false e h = record { room = e; page = cc }

-- ---- what a put leaves, and the page with room

module _ {s : List ℕ} {m : Meta} (r : Reads s m) (b : ℕ) (under : b ≤ m.max) (e : Entry) (held : ℕ)
    (ok : (y : Index) → put (decode s) b e ≡ some y → (WF y) × (count y ≡ held)) where
  pub leaves_of : {y : Index} → put (decode s) b e ≡ some y → Leaves s m b held y
  leaves_of {y} h = record { reads = r; made = under; wf = (ok y h).0; held = (ok y h).1 }

  pub in-room : {k : ℕ} → RoomIn (decode s) b k → InRoom s m k e held b
  in-room f =
      record { leaves = leaves_of (put-room (decode s) b e f.room); room = f.room; page = f.page }

  -- ---- the chain's end: no page of the chain has room, and `last` is its last

  module _ (last : ℕ) (f : NoRoomIn (decode s) b last) where
    abbrev x : Index
    x = decode s

    abbrev map : List ℕ
    map = block s (map_block x)

    laid : Laid x
    laid = reads-laid r

    bits : (n : ℕ) → n < 2048 → bit_of map n ≡ map_bit x n
    bits = bits-shaped x (map-shape r)

    module _ (n : ℕ) (free : lowest_free (block s (map_block (decode s))) ≡ Some n) where
      pub bit-free : IsFree (decode s) n
      bit-free = (free-read x laid map bits n free).1

      pub put-again : put (decode s) b e ≡ some (extended (decode s) (decode s).spares b n e)
      put-again = put-free x b e f.room n (free-read x laid map bits n free).0

      pub end-again : AtEnd s m b last e held (decode s).spares n
      end-again = record { leaves = leaves_of put-again; page = f.page }

    module _ (nothing : lowest_free (block s (map_block (decode s))) ≡ None) where
      no-bit : free_bit x ≡ none
      no-bit = none_read x laid map bits nothing

      module _ (room : made m.spares m.point < m.size) where
        pub blocks-left : made (decode s).spares (point (decode s).max_bucket) < (decode s).size
        blocks-left = omega (arith, read_made r, read-size r)

        pub put_next : put (decode s) b e ≡ some (extended (decode s) (more_spares (decode s)) b (top_bit (decode s)) e)
        put_next = put-fresh x b e f.room no-bit blocks-left

        pub end_fresh : AtEnd s m b last e held (more_spares (decode s)) (top_bit (decode s))
        end_fresh = record { leaves = leaves_of put_next; page = f.page }

      pub put-nowhere : m.size ≤ made m.spares m.point → put (decode s) b e ≡ none
      put-nowhere h = put_full x b e f.room no-bit (omega (arith, read_made r, read-size r))
