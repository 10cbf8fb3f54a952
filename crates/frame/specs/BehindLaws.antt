-- Pages behind a chain that has room move no place in it, and no block. The places of a chain in which an entry is to
-- move: of its last page, and of its first page with room.
use Rattle.std.specs.Prelude.{◌≡◌, refl, Bool, true, false, cond, ◌||◌, List, [], ◌∷◌, ◌++◌, ℕ, suc, ◌≤◌, length, get_or}
use Rattle.std.proofs.Common.{ap, ◌∙◌, arith, length-append}
use Rattle.std.proofs.lemmas.List.{map-append, length-map, get_or_at}
use Rattle.std.proofs.Math.ListN.{get_or-append}
use Rattle.lists.specs.Lists.{any}
use Rattle.page.specs.declared.Entry.{Entry}
use Rattle.model.specs.Index.{Page, Chain, Index}
use Rattle.model.specs.Pages.{has_room, page_room, chain_room}
use Rattle.model.proofs.SqueezeLaws.{Moving, pages, page, behind}
use Rattle.store.specs.Flags.{no_link}
use Rattle.frame.specs.Frame.{block_of_bit, blocks_after, chain_blocks, place_block, first_place, room_place, last_place}
use Rattle.frame.specs.ListsLaws.{place-left}
use Rattle.frame.specs.PagesLaws.{room_at}

pub behind-place : (hs : List Page) (c : Chain) → chain_room c ≡ true → room_place (behind hs c) ≡ room_place c
behind-place hs c h = go (has_room c.first) h
  where
    go : (b : Bool) → b || any page_room c.more ≡ true
        → cond b 0 (suc (first_place page_room (c.more ++ hs))) ≡ cond b 0 (suc (first_place page_room c.more))
    go true h = refl
    go false h = ap suc (place-left page_room c.more hs h)

pub place_inside : (e : Entry) (c : Chain) → chain_room c ≡ true → room_place c ≤ length c.more
place_inside e c h = omega (arith, (room_at e c h).inside, length-map c.more (λ (g : Page). g.entries))

-- ---- a chain in which an entry is to move: the pages before its last one have room

module _ {c : Chain} {e : Entry} (m : Moving c e) where
  abbrev front : Chain
  front = pages c.first m.before

  abbrev last : Page
  last = page m.bit (m.entries ++ e ∷ [])

  pub last-place : last_place c ≡ suc (length m.before)
  last-place = ap (λ (d : Chain). length d.more) m.shape ∙ length-append m.before (last ∷ []) ∙ omega arith

  pub front-place : room_place c ≡ room_place (pages c.first m.before)
  front-place = ap room_place m.shape ∙ behind-place (last ∷ []) front m.room

  pub front-inside : room_place (pages c.first m.before) ≤ length m.before
  front-inside = place_inside e front m.room

-- ---- blocks

module _ (x : Index) (b : ℕ) (c : Chain) where
  blocks-length : length (chain_blocks x b c) ≡ suc (length c.more)
  blocks-length = ap suc (length-map c.more (λ (g : Page). block_of_bit x g.bit))

  behind-blocks : (hs : List Page) → chain_blocks x b (behind hs c) ≡ chain_blocks x b c ++ blocks_after x hs
  behind-blocks hs =
      ap (λ (js : List ℕ). chain_blocks x b (pages [] []) ++ js)
      (map-append (λ (g : Page). block_of_bit x g.bit) c.more hs)

  pub behind-block : (hs : List Page) (i : ℕ) → i ≤ length c.more
      → place_block x b (behind hs c) i ≡ place_block x b c i
  behind-block hs i h =
      ap (λ (js : List ℕ). get_or js i no_link) (behind-blocks hs)
      ∙ get_or-append (chain_blocks x b c) (blocks_after x hs) no_link i (omega (arith, blocks-length))

  pub behind-last : (g : Page) → place_block x b (behind (g ∷ []) c) (suc (length c.more)) ≡ block_of_bit x g.bit
  behind-last g =
      ap (λ (js : List ℕ). get_or js (suc (length c.more)) no_link) (behind-blocks (g ∷ []))
      ∙ get_or_at (chain_blocks x b c) (block_of_bit x g.bit) [] no_link (suc (length c.more)) blocks-length
