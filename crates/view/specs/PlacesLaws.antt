-- What the searches along a bucket's chain find: the places of the index.
use Rattle.std.specs.Prelude.{◌≡◌, Bool, List, length, get_or, Option, None}
use Rattle.std.proofs.Math.Path.{refl, ap}
use Rattle.std.proofs.Common.{sym, ◌∙◌, arith}
use Rattle.std.proofs.Math.Bool.{true, false, cond}
use Rattle.std.proofs.Math.Option.{none, some}
use Prim.Native.Nat.{ℕ, suc, pred, ◌≤◌}
use Rattle.std.proofs.lemmas.List.{length-map}
use Rattle.lists.specs.Lists.{any}
use Rattle.page.specs.declared.Pair.{Pair}
use Rattle.page.specs.declared.Entry.{Entry}
use Rattle.page.specs.Pair.{is}
use Rattle.page.specs.Places.{place_of}
use Rattle.model.specs.Index.{Page, Index, chain, entries_at}
use Rattle.model.specs.Pages.{page_room, chain_room}
use Rattle.image.specs.declared.Meta.{Meta}
use Rattle.store.specs.Flags.{no_link}
use Rattle.image.specs.Decode.{block_of, trail, read_page, decode}
use Rattle.frame.specs.Frame.{block_of_bit, chain_blocks, page_block, page_entries, first_place, room_place, last_place}
use Rattle.frame.specs.Frame.{on_page, pair_place}
use Rattle.chain.specs.declared.Found.{Found}
use Rattle.chain.specs.declared.Room.{Room}
use Rattle.chain.specs.Walk.{last_of}
use Rattle.chain.specs.WalkLaws.{walk-trail}
use Rattle.chain.specs.Search.{at_slot, pair_on, room_on, found_as, find_in, room_as, room_in}
use Rattle.chain.specs.Within.{entries_on}
use Rattle.chain.specs.FindLaws.{any-bind}
use Rattle.chain.proofs.DecodeLaws.{chain-decode, room-walk}
use Rattle.view.specs.Reads.{Reads}
use Rattle.view.specs.Places.{find_at, room_at}
use Rattle.view.specs.FirstLaws.{get_d_default, find-place, place_inside, place_map}
use Rattle.view.specs.ChainLaws.{under-max, walk-read, entries-read, page-read}

module _ {s : List ℕ} {m : Meta} (r : Reads s m) (b : ℕ) (made : b ≤ m.max) where
  abbrev x : Index
  x = decode s

  abbrev ks : List ℕ
  ks = chain_blocks x b (chain x b)

  length-blocks : length ks ≡ suc (length (chain x b).more)
  length-blocks = ap suc (length-map (chain x b).more (λ (g : Page). block_of_bit x g.bit))

  -- ---- a pair

  any-read : (p : Pair) → any (pair_on s p) ks ≡ any (is p) (entries_at x b)
  any-read p = sym (any-bind (is p) (entries_on s) ks) ∙ ap (any (is p)) (entries-read r b made)

  place_read : (p : Pair) → first_place (pair_on s p) ks ≡ pair_place p (chain x b)
  place_read p =
      ap (first_place (pair_on s p)) (sym (walk-trail s b ∙ walk-read r b made))
      ∙ ap (λ (n : ℕ). cond (pair_on s p (block_of s b)) 0 (suc n)) (sym (place_map (read_page s) (on_page p) (trail s b)))
      ∙ ap (pair_place p) (sym (chain-decode s b (under-max r b made)))

  pub find-read : (p : Pair) → find_in s (chain_blocks (decode s) b (chain (decode s) b)) p ≡ find_at (decode s) b p
  unfolding find_in find_at
  find-read p =
      ap (found_as s p) (find-place (pair_on s p) ks no_link) ∙ go (any (pair_on s p) ks) refl
      ∙ ap (λ (t : Bool). cond t (there (pair_place p (chain x b))) None) (any-read p)
    where
      there : ℕ → Option Found
      there i = at_slot (page_block x b i) (place_of p (page_entries x b i))

      go : (t : Bool) → any (pair_on s p) ks ≡ t
          → found_as s p (cond t (some (get_or ks (first_place (pair_on s p) ks) no_link)) none)
          ≡ cond t (there (pair_place p (chain x b))) None
      go false e = refl
      go true e =
          let i = first_place (pair_on s p) ks in
          let inside : i ≤ length (chain x b).more = omega (arith, place_inside (pair_on s p) ks e, length-blocks) in
          ap (λ (es : List Entry). at_slot (page_block x b i) (place_of p es)) (page-read r b made i inside)
          ∙ ap there (place_read p)

  -- ---- room

  pub room-place : first_place (room_on s) (chain_blocks (decode s) b (chain (decode s) b))
      ≡ room_place (chain (decode s) b)
  room-place =
      ap (first_place (room_on s)) (sym (walk-trail s b ∙ walk-read r b made))
      ∙ ap (λ (n : ℕ). cond (room_on s (block_of s b)) 0 (suc n)) (sym (place_map (read_page s) page_room (trail s b)))
      ∙ ap room_place (sym (chain-decode s b (under-max r b made)))

  room-any : any (room_on s) ks ≡ chain_room (chain x b)
  room-any = ap (any (room_on s)) (sym (walk-read r b made)) ∙ room-walk s b (under-max r b made)

  pub last-read : last_of (chain_blocks (decode s) b (chain (decode s) b))
      ≡ page_block (decode s) b (last_place (chain (decode s) b))
  last-read =
      let n : pred (length ks) ≡ length (chain x b).more = ap pred length-blocks in
      ap (λ (i : ℕ). get_or ks i 0) n ∙ get_d_default ks (length (chain x b).more) 0 no_link (omega (arith, length-blocks))

  pub room-read : room_in s (chain_blocks (decode s) b (chain (decode s) b)) ≡ room_at (decode s) b
  unfolding room_in room_at
  room-read =
      ap (room_as (last_of ks)) (find-place (room_on s) ks no_link) ∙ go (any (room_on s) ks)
      ∙ ap (λ (t : Bool). cond t (Room.Page (page_block x b (room_place (chain x b)))) (Room.Full (page_block x b (last_place (chain x b))))) room-any
    where
      go : (t : Bool)
          → room_as (last_of ks) (cond t (some (get_or ks (first_place (room_on s) ks) no_link)) none)
          ≡ cond t (Room.Page (page_block x b (room_place (chain x b)))) (Room.Full (page_block x b (last_place (chain x b))))
      go true = ap (λ (i : ℕ). Room.Page (page_block x b i)) room-place
      go false = ap Room.Full last-read
