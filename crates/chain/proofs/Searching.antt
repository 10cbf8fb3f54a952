-- The turns of the loops that look for a pair, for room and for the chain's end.
use mathlib.Core.Path.{◌≡◌, sym, ap, ◌∙◌, subst}
use mathlib.Core.Logic.{◌≢◌}
use mathlib.Core.Bool.{false}
use mathlib.Core.List.{List, [], ◌∷◌}
use Prim.Native.Nat.{ℕ, ◌+◌, ◌*◌, ◌≤◌, ◌<◌}
use native.Mathlib.Omega.{arith}
use borrow.Author.Tests.{lt-ltb, le-ltb}
use lib.ListN.{length, get_or, drop}
use Rattle.std.specs.Prelude.{Option, Some, None}
use Rattle.lists.specs.Lists.{find}
use Rattle.lists.specs.Block.{blocks, block}
use Rattle.lists.specs.BlockLaws.{length-block}
use Rattle.endian.specs.Endian.{u16_at}
use Rattle.page.specs.declared.Pair.{Pair}
use Rattle.page.specs.Entries.{entries_of}
use Rattle.page.specs.EntriesLaws.{length-entries_of}
use Rattle.store.specs.Store.{next_at}
use Rattle.store.specs.Flags.{no_link}
use Rattle.image.specs.Decode.{follow}
use Rattle.frame.specs.ListsLaws.{find-hit, find-pass}
use Rattle.chain.specs.declared.Room.{Room}
use Rattle.chain.specs.Walk.{walk, last_of, Bounded}
use Rattle.chain.specs.WalkLaws.{walk_end, walk_more, bounded-first, bounded-next}
use Rattle.chain.specs.Search.{slot_in, pair_on, room_on, at_slot, found_as, find_in, room_as, room_in}
use Rattle.chain.specs.Within.{entries_on}
use Rattle.chain.proofs.SearchLaws.{slot_at, slot-none}
use Rattle.chain.specs.FindLaws.{find-here, find-later, find-end}

module _ (s ks : List ℕ) (p : Pair) (i : ℕ) where
  abbrev at : ℕ
  at = get_or ks i 0

  -- nothing was found before index i
  abbrev PairLeft : Type 0
  PairLeft = find (pair_on s p) ks ≡ find (pair_on s p) (drop i ks)

  -- the answer r of the search for the pair in the page x
  module _ (more : i < length ks) {x : List ℕ} (on : x ≡ block s (get_or ks i 0)) {r : Option ℕ}
      (asked : r ≡ slot_in (entries_of x) p) where
    answer : r ≡ slot_in (entries_on s at) p
    answer = asked ∙ ap (λ (y : List ℕ). slot_in (entries_of y) p) on

    pub pair-here : (k : ℕ) → r ≡ Some k → PairLeft → find_in s ks p ≡ at_slot (get_or ks i 0) k
    unfolding find_in
    pair-here k e left =
        let o = slot_at (entries_on s at) p k (sym answer ∙ e) in
        ap (found_as s p) (left ∙ find-here (pair_on s p) ks i 0 more o.stands) ∙ ap (at_slot at) (sym o.place)

    pub pair-later : r ≡ None → find (pair_on s p) (drop i ks) ≡ find (pair_on s p) (drop (i + 1) ks)
    pair-later e = find-later (pair_on s p) ks i 0 more (slot-none (entries_on s at) p (sym answer ∙ e))

  pub pair-nowhere : length ks ≤ i → PairLeft → find_in s ks p ≡ None
  unfolding find_in
  pair-nowhere past left = ap (found_as s p) (left ∙ find-end (pair_on s p) ks i past)

-- ---- the page of a chain's first block

pub first-whole : (s : List ℕ) (k : ℕ) → Bounded s k → 512 * k + 512 ≤ length s
unfolding blocks
first-whole s k b = omega (arith, bounded-first s k b)

pub first-length : (s : List ℕ) (k : ℕ) → Bounded s k → {x : List ℕ} → x ≡ block s k → length x ≡ 512
first-length s k b e = ap length e ∙ length-block s k (first-whole s k b)

-- ---- room, and the last block, in the chain from block k on, whose page is x

module _ (s : List ℕ) (k : ℕ) {x : List ℕ} (on : x ≡ block s k) where
  number : length (entries_on s k) ≡ u16_at x 0
  number = length-entries_of (block s k) ∙ ap (λ (y : List ℕ). u16_at y 0) (sym on)

  pub room-here : u16_at x 0 < 40 → room_in s (walk s k) ≡ Room.Page k
  unfolding room_in walk
  room-here h =
      ap (room_as (last_of (walk s k)))
      (find-hit (room_on s) k (follow s (blocks s) k) (lt-ltb (length (entries_on s k)) 40 (omega (arith, number))))

  full : 40 ≤ u16_at x 0 → room_on s k ≡ false
  full h = le-ltb (length (entries_on s k)) 40 (omega (arith, number))

  module _ {next : ℕ} (read : next ≡ next_at x) where
    leads : next ≡ next_at (block s k)
    leads = read ∙ ap next_at on

    pub room-last : next ≡ no_link → 40 ≤ u16_at x 0 → room_in s (walk s k) ≡ Room.Full k
    unfolding room_in
    room-last e h =
        ap (room_in s) (walk_end s k (sym leads ∙ e)) ∙ ap (room_as k) (find-pass (room_on s) k [] (full h))

    pub last-here : next ≡ no_link → last_of (walk s k) ≡ k
    last-here e = ap last_of (walk_end s k (sym leads ∙ e))

    module _ (ne : next ≢ no_link) (b : Bounded s k) where
      more : walk s k ≡ k ∷ walk s next
      more = walk_more s k (λ q. ne (leads ∙ q)) b.short ∙ ap (λ (j : ℕ). k ∷ walk s j) (sym leads)

      pub room-later : 40 ≤ u16_at x 0 → room_in s (walk s k) ≡ room_in s (walk s next)
      unfolding room_in walk
      room-later h =
          ap (room_in s) more ∙ ap (room_as (last_of (walk s next))) (find-pass (room_on s) k (walk s next) (full h))

      pub last-later : last_of (walk s k) ≡ last_of (walk s next)
      unfolding walk
      last-later = ap last_of more

      pub left_less : length (walk s next) < length (walk s k)
      left_less = omega (arith, ap length more)

      pub left-bounded : Bounded s next
      left-bounded = subst (Bounded s) (sym leads) (bounded-next s k b (λ q. ne (leads ∙ q)))
