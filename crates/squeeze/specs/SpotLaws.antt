-- What the code finds along the chain, from a page on: no page to move an entry to, or the entry that a step moves; the
-- job's buckets.
use Rattle.std.proofs.Math.Path.{◌≡◌, refl, sym, ap, subst, subst₂}
use Rattle.std.proofs.Common.{◌∙◌, arith}
use Rattle.std.specs.Prelude.{◌≢◌, Bool, true, false, not, ◌&&◌, Some, None, Result as Outcome, Ok, Err, List, ℕ, suc, ◌≤◌, ◌<◌, eqb, length, get_or, drop}
use Rattle.std.proofs.Math.Bool.{cond}
use Rattle.std.proofs.Math.Option.{Option, none, some}
use Rattle.std.proofs.lemmas.List.{length-map}
use Rattle.lists.specs.Lists.{find}
use Rattle.lists.specs.ListsLaws.{eqb_yes, eqb_no, and_left}
use Rattle.lists.specs.Block.{blocks, block}
use Rattle.endian.specs.Endian.{u16_at}
use Rattle.page.specs.declared.Entry.{Entry}
use Rattle.page.specs.Entries.{entry_at, entries_of}
use Rattle.page.specs.EntriesLaws.{length-entries_of, get_or-entries_of}
use Rattle.store.specs.declared.Change.{Change}
use Rattle.store.specs.Flags.{no_link}
use Rattle.model.specs.declared.Stop.{Stop}
use Rattle.model.specs.Index.{Page, Chain, Index, chain}
use Rattle.model.specs.Pages.{chain_room}
use Rattle.model.specs.Steps.{Step, next}
use Rattle.model.specs.Squeeze.{final, mover, moved_to, squeeze_in, squeeze_step}
use Rattle.model.proofs.MachineLaws.{never}
use Rattle.image.specs.declared.Meta.{Meta}
use Rattle.image.specs.Decode.{block_of, decode}
use Rattle.frame.specs.Frame.{room_place, last_place, block_of_bit, chain_blocks, page_block, place_entries, page_entries}
use Rattle.frame.specs.ApartLaws.{page-same}
use Rattle.frame.specs.RemoveLaws.{stands-once}
use Rattle.chain.specs.Search.{at_slot}
use Rattle.chain.specs.declared.Room.{Room}
use Rattle.chain.specs.Walk.{walk, last_of, Bounded}
use Rattle.chain.specs.WalkLaws.{Onward, walk-onward}
use Rattle.chain.specs.Search.{room_on, room_as, room_in}
use Rattle.view.specs.Reads.{Reads}
use Rattle.view.specs.ReadsLaws.{reads-laid, reads-size, reads-max}
use Rattle.view.specs.Places.{find_at, room_at}
use Rattle.view.specs.FirstLaws.{get_d_default, find-drop}
use Rattle.view.specs.ChainLaws.{walk-read, walk-bounded, page-read}
use Rattle.view.specs.PlacesLaws.{room-place, room-read}
use Rattle.plan.specs.Plan.{Plans, Advances, advanced, halted}
use Rattle.plan.specs.StoreLaws.{page-under, page-few}
use Rattle.insertion.specs.Put.{room_block, last_block, RoomIn}
use Rattle.insertion.specs.PlacesLaws.{room_at-page, room_at-full}
use Rattle.squeeze.specs.declared.Spot.{Spot}
use Rattle.squeeze.specs.declared.Span.{Span}
use Rattle.squeeze.specs.Spot.{room_before, spot_at}
use Rattle.squeeze.specs.Span.{Spans}
use Rattle.squeeze.specs.Move.{Movable}
use Rattle.squeeze.specs.LastLaws.{final-get_or, mover-last, room-inside, last-used, found_at}

-- ---- the spot, of an index

abbrev spot : (last target : ℕ) → Spot
spot last target = record { last = last; target = target }

module _ (x : Index) (b : ℕ) where
  spot-by : (t : Bool) → room_before (chain x b) ≡ t
      → cond t (Some (spot (last_block x b) (room_block x b))) None ≡ spot_at x b
  unfolding spot_at
  spot-by t e = ap (λ (t : Bool). cond t (Some (spot (last_block x b) (room_block x b))) None) (sym e)

  -- the last page, and the first page with room, are two
  pub record Two (last target : ℕ) : Type 0 where
    pub room : room_before (chain x b) ≡ true
    pub last-is : last ≡ last_block x b
    pub target_is : target ≡ room_block x b

  pub spot-at : (v : Spot) → Some v ≡ spot_at x b → Two v.last v.target
  spot-at v e = go (room_before (chain x b)) refl
    where
      go : (t : Bool) → room_before (chain x b) ≡ t → Two v.last v.target
      go true q =
          let f = spot-by true q in
          let same : v ≡ spot (last_block x b) (room_block x b) = cc in
          record { room = q; last-is = ap (λ (w : Spot). w.last) same; target_is = ap (λ (w : Spot). w.target) same }
      go false q = let f = spot-by false q in never (cc)

  spot-not : None ≡ spot_at x b → room_before (chain x b) ≡ false
  spot-not e = go (room_before (chain x b)) refl
    where
      go : (t : Bool) → room_before (chain x b) ≡ t → t ≡ false
      go true q = let f = spot-by true q in never (cc)
      go false q = refl

  -- no page has room
  spot-none : (k : ℕ) → room_at x b ≡ Room.Full k → None ≡ spot_at x b
  spot-none k e =
      spot-by false
      (ap (λ (t : Bool). t && not (eqb (room_place (chain x b)) (last_place (chain x b)))) (room_at-full x b k e).room)

  -- ---- the step

  pub halts : {s : List ℕ} {c : Change} {images : List ℕ} {a : Outcome Span Stop} → None ≡ spot_at x b
      → a ≡ Err Stop.Idle → c.count ≡ 0 → Advances s c images (squeeze_step b x) a
  unfolding squeeze_step
  halts {s} {c} {images} e q z =
      let none_moves : mover (chain x b) ≡ none =
      mover-last (chain x b)
      ∙ ap (λ (t : Bool). cond t (final (place_entries (chain x b) (last_place (chain x b)))) none) (spot-not e) in
      subst₂ (Advances s c images) (sym (ap (λ (o : Option Entry). squeeze_in o b x) none_moves)) (sym q) (halted z)

  pub moves-on : {s : List ℕ} {c : Change} {images : List ℕ} (e : Entry) (v : Span) → mover (chain x b) ≡ some e
      → Plans s c images (moved_to x b e) → Advances s c images (squeeze_step b x) (Ok v)
  unfolding squeeze_step
  moves-on {s} {c} {images} e v h p =
      subst (λ (t : Step Index). Advances s c images t (Ok v))
      (sym (ap (λ (o : Option Entry). squeeze_in o b x) h)) (advanced p)

  pub moves-to : (e : Entry) → mover (chain x b) ≡ some e → (y : Index) → squeeze_step b x ≡ next y → moved_to x b e ≡ y
  unfolding squeeze_step
  moves-to e h y k =
      let q : ◌≡◌ {A = Step Index} (next (moved_to x b e)) (next y) =
      sym (ap (λ (o : Option Entry). squeeze_in o b x) h) ∙ k in
      cc

-- ---- in a store that is read as an index

module _ {s : List ℕ} {m : Meta} (r : Reads s m) (b : ℕ) (made : b ≤ m.max) where
  abbrev x : Index
  x = decode s

  abbrev c : Chain
  c = chain x b

  low : b ≤ x.max_bucket
  low = omega (arith, made, reads-max r)

  -- ---- from a page before which none has room

  module _ {v : Span} (w : Spans (decode s) b v) where
    onward : Onward s (block_of s b) w.place v.first
    onward =
        let all = walk-read r b made in
        let n : length (chain_blocks x b c) ≡ suc (last_place c) =
        ap suc (length-map c.more (λ (g : Page). block_of_bit x g.bit)) in
        subst (Onward s (block_of s b) w.place)
        (ap (λ (js : List ℕ). get_or js w.place 0) all
        ∙ get_d_default (chain_blocks x b c) w.place 0 no_link (omega (arith, n, w.inside))
        ∙ sym w.first)
        (walk-onward s (block_of s b) (walk-bounded r b made) w.place (omega (arith, ap length all, n, w.inside)))

    pub span-bounded : Bounded s v.first
    span-bounded = onward.bounded

    -- the first page with room is the chain's
    same : find (room_on s) (walk s v.first) ≡ find (room_on s) (chain_blocks (decode s) b (chain (decode s) b))
    same =
        ap (find (room_on s)) (onward.rest ∙ ap (drop w.place) (walk-read r b made))
        ∙ find-drop (room_on s) (chain_blocks x b c) w.place (omega (arith, w.passed, room-place r b made))

    module _ {k : ℕ} (found : room_in s (walk s v.first) ≡ Room.Page k) where
      room : RoomIn (decode s) b k
      unfolding room_in
      room = room_at-page x b k (sym (room-read r b made) ∙ go (find (room_on s) (chain_blocks x b c)) found_in)
        where
          found_in : room_as (last_of (walk s v.first)) (find (room_on s) (chain_blocks x b c)) ≡ Room.Page k
          found_in = ap (room_as (last_of (walk s v.first))) (sym same) ∙ found

          go : (o : Option ℕ) → room_as (last_of (walk s v.first)) o ≡ Room.Page k
              → room_as (last_of (chain_blocks x b c)) o ≡ Room.Page k
          go (some j) h = h
          go none h = never (cc)

      inside : room_place c ≤ last_place c
      inside = room-inside c room.room

      spot_is : (t : Bool) → eqb (room_place c) (last_place c) ≡ t
          → cond (not t) (Some (spot (last_block x b) (room_block x b))) None ≡ spot_at x b
      spot_is t e = spot-by x b (not t) (λ i. room.room i && not (e i))

      pub spot-one : k ≡ v.last → None ≡ spot_at (decode s) b
      spot-one q =
          let same = page-same x (reads-laid r) b (room_place c) b (last_place c) low inside low (omega arith)
          (sym room.page ∙ q ∙ w.last) in
          spot_is true (eqb_yes (room_place c) (last_place c) same.1)

      pub spot-two : k ≢ v.last → Some (spot v.last k) ≡ spot_at (decode s) b
      spot-two ne =
          (λ i. Some (spot (w.last i) (room.page i)))
          ∙ spot_is false
          (eqb_no (room_place c) (last_place c) (λ q. ne (room.page ∙ ap (page_block x b) q ∙ sym w.last)))

    -- no page has room
    pub spot-full : {q : ℕ} → room_in s (walk s v.first) ≡ Room.Full q → None ≡ spot_at (decode s) b
    unfolding room_in
    spot-full {q} found =
        spot-none x b (last_of (chain_blocks x b c))
        (sym (room-read r b made)
        ∙ go (find (room_on s) (chain_blocks x b c)) (ap (room_as (last_of (walk s v.first))) (sym same) ∙ found))
      where
        go : (o : Option ℕ) → room_as (last_of (walk s v.first)) o ≡ Room.Full q
            → room_as (last_of (chain_blocks x b c)) o ≡ Room.Full (last_of (chain_blocks x b c))
        go none h = refl
        go (some j) h = never (cc)

  -- ---- the entry that goes

  module _ {last target : ℕ} (two : Two (decode s) b last target) where
    abbrev es : List Entry
    es = page_entries x b (last_place c)

    read : entries_of (block s last) ≡ es
    read =
        ap (λ (k : ℕ). entries_of (block s k)) two.last-is ∙ page-read r b made (last_place c) (omega arith)

    pub last-number : u16_at (block s last) 0 ≡ length (page_entries (decode s) b (last_place (chain (decode s) b)))
    last-number = sym (length-entries_of (block s last)) ∙ ap length read

    pub last_under : last < blocks s
    last_under = omega (arith, two.last-is, page-under r b made (last_place c) (omega arith), reads-size r)

    pub last_some : 1 ≤ u16_at (block s last) 0
    last_some = omega (arith, last-number, last-used c ((reads-laid r).pages b) two.room)

    pub last-few : u16_at (block s last) 0 ≤ 40
    last-few = omega (arith, last-number, page-few r b made (last_place c) (omega arith))

    pub goes : {slot : ℕ} {e : Entry} → suc slot ≡ u16_at (block s last) 0 → e ≡ entry_at (block s last) slot
        → Movable s m b e last slot target
    goes {slot} {e} n q =
        record {
          reads = r;
          made = made;
          moves =
              mover-last c ∙ ap (λ (t : Bool). cond t (final es) none) two.room ∙ final-get_or es slot e (n ∙ last-number)
              ∙ ap some (sym entry);
          found =
              ap (λ (d : Entry). find_at x b d.pair) entry
              ∙ found_at x b (last_place c) slot e ((reads-laid r).pages b) (omega arith) (omega (arith, n, last-number))
              (stands-once x r.wf (get_or es slot e).pair b)
              ∙ ap (λ (k : ℕ). at_slot k slot) (sym two.last-is);
          room = record { room = and_left (chain_room c) _ two.room; page = two.target_is };
        }
      where
        entry : e ≡ get_or es slot e
        entry =
            q ∙ sym (get_or-entries_of (block s last) slot e (omega (arith, n)))
            ∙ ap (λ (ds : List Entry). get_or ds slot e) read
