-- The walk from a bucket's block reads what `decode` gives as the bucket's chain, of any bytes.
use Rattle.std.specs.Prelude.{◌≡◌, refl, Bool, ◌||◌, ℕ, suc, ◌≤◌, is_some}
use Rattle.std.proofs.Common.{sym, ◌∙◌, arith}
use Rattle.std.proofs.Math.Path.{ap}
use mathlib.Core.List.{List, [], ◌∷◌, ◌++◌, map}
use Rattle.lists.specs.Lists.{any, bind}
use Rattle.lists.specs.RunLaws.{get_or-run}
use Rattle.page.specs.declared.Pair.{Pair}
use Rattle.page.specs.declared.Entry.{Entry}
use Rattle.page.specs.Pair.{is}
use Rattle.model.specs.Index.{no_chain, on_pages, entries_in, chain, entries_at}
use Rattle.model.specs.Pages.{page_room, chain_room}
use Rattle.image.specs.Decode.{max_at, block_of, trail, read_page, read_chain, decode}
use Rattle.chain.specs.Walk.{walk}
use Rattle.chain.specs.Search.{room_on, find_in, room_in, is_page}
use Rattle.chain.specs.Within.{entries_on}
use Rattle.chain.proofs.SearchLaws.{find_in-any, room_in-any}

module _ (s : List ℕ) where
  on_pages-read : (ks : List ℕ) → on_pages (map (read_page s) ks) ≡ bind ks (entries_on s)
  on_pages-read [] = refl
  on_pages-read (k ∷ ks) = ap (λ (es : List Entry). entries_on s k ++ es) (on_pages-read ks)

  any_room-read : (ks : List ℕ) → any page_room (map (read_page s) ks) ≡ any (room_on s) ks
  any_room-read [] = refl
  any_room-read (k ∷ ks) = ap (λ (b : Bool). room_on s k || b) (any_room-read ks)

  module _ (b : ℕ) (made : b ≤ max_at s) where
    pub chain-decode : chain (decode s) b ≡ read_chain s b
    unfolding decode
    chain-decode = get_or-run (read_chain s) no_chain 0 (suc (max_at s)) b (omega arith) ∙ ap (read_chain s) (omega arith)

    pub entries-walk : bind (walk s (block_of s b)) (entries_on s) ≡ entries_at (decode s) b
    unfolding walk
    entries-walk =
        ap (λ (es : List Entry). entries_on s (block_of s b) ++ es) (sym (on_pages-read (trail s b)))
        ∙ ap entries_in (sym chain-decode)

    pub room-walk : any (room_on s) (walk s (block_of s b)) ≡ chain_room (chain (decode s) b)
    unfolding walk
    room-walk =
        ap (λ (t : Bool). room_on s (block_of s b) || t) (sym (any_room-read (trail s b)))
        ∙ ap chain_room (sym chain-decode)

    -- a pair is found if the bucket's chain has it
    pub find_in-decode : (p : Pair) → is_some (find_in s (walk s (block_of s b)) p) ≡ any (is p) (entries_at (decode s) b)
    find_in-decode p = find_in-any s (walk s (block_of s b)) p ∙ ap (any (is p)) entries-walk

    -- a page is found if the bucket's chain has room
    pub room_in-decode : is_page (room_in s (walk s (block_of s b))) ≡ chain_room (chain (decode s) b)
    room_in-decode = room_in-any s (walk s (block_of s b)) ∙ room-walk
