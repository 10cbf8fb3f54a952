-- An entry put into a page with room: what the code finds there, and the plan.
use Rattle.std.specs.Prelude.{◌≡◌, refl, Bool, true, false, not, ℕ, suc, ◌≤◌, ◌<◌, ltb, length, drop}
use Rattle.std.proofs.Math.Path.{sym, ap, subst}
use Rattle.std.proofs.Common.{◌∙◌, arith}
use mathlib.Core.List.{List, [], ◌∷◌, ◌++◌}
use Rattle.std.proofs.Math.Option.{Option, none, some}
use borrow.Author.Tests.{ltb-true, lt-ltb, le-ltb}
use Rattle.std.proofs.lemmas.List.{length-map}
use Rattle.lists.specs.Lists.{b2n}
use Rattle.lists.specs.Block.{blocks, block, set_block}
use Rattle.address.specs.Address.{point, last_split, made}
use Rattle.page.specs.declared.Entry.{Entry}
use Rattle.page.specs.Entries.{encode_page, entries_of}
use Rattle.page.specs.Places.{place_of, insert_at}
use Rattle.page.specs.Gap.{Room}
use Rattle.page.specs.Rule.{page_ok}
use Rattle.page.specs.Allowed.{Sorted}
use Rattle.page.proofs.RuleLaws.{page_ok-sorted}
use Rattle.page.specs.PlaceLaws.{place-le, enter-insert_at}
use Rattle.page.specs.SlotLaws.{length-insert_at}
use Rattle.page.specs.SublistLaws.{all-each, each-get_or}
use Rattle.store.specs.declared.Change.{Change}
use Rattle.store.specs.Store.{trailer, covered}
use Rattle.model.specs.Index.{Page, Index, chain, top_bit}
use Rattle.model.specs.Pages.{chain_room, add_entry, free_bit, first_free, Taken, take_from, take_page, put_in, put}
use Rattle.image.specs.declared.Meta.{Meta}
use Rattle.image.specs.Layout.{paged, meta_front, flags_of, encode_block}
use Rattle.store.specs.Flags.{no_link}
use Rattle.image.specs.Decode.{decode}
use Rattle.image.specs.PageOkLaws.{length-page_front}
use Rattle.frame.specs.Frame.{block_of_bit, map_block, chain_blocks, page_block, page_entries, prev_in, flags_for, page_with}
use Rattle.frame.specs.Frame.{entries_after, room_place}
use Rattle.frame.specs.ApartLaws.{page-meta}
use Rattle.frame.specs.FreshLaws.{more_spares}
use Rattle.frame.specs.MetaLaws.{room-free}
use Rattle.frame.specs.PagesLaws.{RoomAt, room_at, room-image}
use Rattle.frame.specs.PutLaws.{frame-room}
use Rattle.view.specs.Reads.{Reads}
use Rattle.view.specs.ReadsLaws.{reads-laid, reads-size, reads-max}
use Rattle.view.specs.ChainLaws.{pages-read, page-read}
use Rattle.draft.specs.Draft.{Draft, Ready, Edited, PageEdited}
use Rattle.draft.specs.ShapeLaws.{room-page}
use Rattle.draft.specs.Trim.{Trimmed}
use Rattle.plan.specs.Fields.{fields_of}
use Rattle.plan.specs.Plan.{Plans}
use Rattle.plan.specs.Shape.{Shaped}
use Rattle.plan.specs.ShapeLaws.{shaped-length, shaped-page, shaped-entries, covered-entries}
use Rattle.plan.specs.Sketch.{Sketch}
use Rattle.plan.specs.SketchLaws.{sketch-none, ready, sketch-here, sketch-more, page-edited}
use Rattle.plan.specs.StoreLaws.{map-shape, page-under, page-shape}
use Rattle.insertion.specs.Put.{entered, extended, Leaves, InRoom}
use Rattle.plan.specs.FieldLaws.{read-free, read-spares}
use Rattle.insertion.specs.FieldLaws.{fields-set}
use Rattle.insertion.specs.FreeLaws.{bits-shaped, first_read}
use Rattle.insertion.specs.PlanFieldsLaws.{fields-ready, plans-fields}

-- ---- what a put answers

module _ (x : Index) (b : ℕ) (e : Entry) where
  pub put-room : chain_room (chain x b) ≡ true → put x b e ≡ some (entered x b e)
  unfolding put
  put-room h = ap (λ (t : Bool). put_in t (take_page x) x b e) h

  module _ (full : chain_room (chain x b) ≡ false) where
    abbrev s : ℕ
    s = point x.max_bucket

    taken : (t : Option Taken) → take_page x ≡ t → put x b e ≡ put_in false t x b e
    unfolding put
    taken t h = λ i. put_in (full i) (h i) x b e

    pub put-free : (n : ℕ) → free_bit x ≡ some n → put x b e ≡ some (extended x x.spares b n e)
    unfolding take_page
    put-free n h = taken _ (ap (λ (f : Option ℕ). take_from f (ltb (made x.spares s) x.size) x.spares s) h)

    pub put-fresh : free_bit x ≡ none → made x.spares (point x.max_bucket) < x.size
        → put x b e ≡ some (extended x (more_spares x) b (top_bit x) e)
    unfolding take_page
    put-fresh h l =
        let r = lt-ltb (made x.spares s) x.size l in
        taken _ (λ i. take_from (h i) (r i) x.spares s)

    pub put_full : free_bit x ≡ none → x.size ≤ made x.spares (point x.max_bucket) → put x b e ≡ none
    unfolding take_page
    put_full h l =
        let r = le-ltb (made x.spares s) x.size l in
        taken _ (λ i. take_from (h i) (r i) x.spares s)

-- ---- a bucket that has a chain

pub chain-there : {s : List ℕ} {m : Meta} {b n : ℕ} {y : Index} → Leaves s m b n y → b < length (decode s).chains
chain-there h = omega (arith, h.made, reads-max h.reads, (reads-laid h.reads).whole)

-- ---- the page

module _ {s : List ℕ} {m : Meta} {k : ℕ} {e : Entry} {held b : ℕ} (h : InRoom s m k e held b) where
  abbrev x : Index
  x = decode s

  abbrev y : Index
  y = entered x b e

  abbrev i : ℕ
  i = room_place (chain x b)

  abbrev es : List Entry
  es = page_entries x b i

  r : Reads s m
  r = h.leaves.reads

  at : RoomAt e i ((chain x b).first ∷ entries_after (chain x b).more)
      ((add_entry e (chain x b)).first ∷ entries_after (add_entry e (chain x b)).more)
  at = room_at e (chain x b) h.room

  inside : i ≤ length (chain x b).more
  inside = omega (arith, at.inside, length-map (chain x b).more (λ (g : Page). g.entries))

  here : page_block x b i < blocks s
  here = omega (arith, page-under r b h.leaves.made i inside, reads-size r)

  few : length es < 40
  few = ltb-true (length es) 40 at.room

  abbrev flags : ℕ
  flags = flags_for (flags_of x b) i

  abbrev prev : ℕ
  prev = prev_in (last_split x.max_bucket b) (chain_blocks x b (chain x b)) i

  shape : Shaped (block s (page_block x b i)) (encode_page es []) prev (page_block x b (suc i)) b flags
  shape = page-shape r b h.leaves.made i inside

  whole : length (block s (page_block x b i)) ≡ 512
  whole = shaped-length (length-page_front es (omega (arith, few))) shape

  pub room-under : k < blocks s
  room-under = rw h.page here

  pub room-sorted : Sorted (block s k)
  room-sorted =
      rw h.page
      (page_ok-sorted (block s (page_block x b i)) whole
      (each-get_or (λ (j : ℕ). page_ok (block s j) ≡ true) (chain_blocks x b (chain x b)) i no_link
      (all-each (λ j. page_ok (block s j)) (chain_blocks x b (chain x b)) (pages-read r b h.leaves.made))
      (omega (arith, inside, length-map (chain x b).more (λ (g : Page). block_of_bit x g.bit)))))

  -- the entry's slot
  module _ (slot : ℕ) (found : slot ≡ place_of e.pair (entries_of (block s k))) where
    slot_is : slot ≡ place_of e.pair es
    slot_is =
        found ∙ ap (λ (j : ℕ). place_of e.pair (entries_of (block s j))) h.page
        ∙ ap (place_of e.pair) (page-read r b h.leaves.made i inside)

    pub room-ready : {c : Change} {images : List ℕ} → Draft s c images s → c.count ≡ 0
        → (d : List ℕ) × Ready s c images d k × Room (block d k) slot
    room-ready g z = (
      s,
      ready (sketch-none g z) k room-under (omega arith),
      subst (λ (j : ℕ). Room (block s j) slot) (sym h.page)
          (room-page (block s (page_block x b i)) es _ whole (shaped-page es shape) slot few
          (omega (arith, slot_is, place-le e.pair es))),
    )

    -- the page with the entry
    module _ {c : Change} {images : List ℕ} (g : Draft s c images s) (z : c.count ≡ 0)
        {c₁ : Change} {images₁ : List ℕ} (p : PageEdited s c images k (insert_at slot e) c₁ images₁) where
      abbrev fs : List Entry
      fs = insert_at slot e es

      fs-few : length (insert_at slot e es) ≤ 40
      fs-few = omega (arith, length-insert_at slot e es, few)

      new : List ℕ
      new =
          encode_page (insert_at slot e es)
          (trailer prev (page_block x b (suc i)) b flags ++ shape.rest)

      new-whole : length new ≡ 512
      unfolding new
      new-whole = shaped-length (length-page_front fs fs-few) (shaped-entries es shape fs)

      start : Sketch s c images s 0 []
      start = sketch-none g z

      room-sketch : Sketch s c₁ images₁ (set_block s (page_block x b i) new) 1 (page_block x b i ∷ [])
      unfolding new
      room-sketch =
          let q : PageEdited s c images (page_block x b i) (insert_at slot e) c₁ images₁ =
          subst (λ (j : ℕ). PageEdited s c images j (insert_at slot e) c₁ images₁) h.page p in
          sketch-more start (page_block x b i) here new new-whole q.lists
          (page-edited start q es _ (shaped-page es shape))

      pub room_fields : (d : List ℕ) × Ready s c₁ images₁ d 0
      room_fields = (_, fields-ready r room-sketch (omega arith))

      shown : covered (block (set_block s (page_block x b i) new) (page_block x b i)) ≡ encode_block y (page_block x b i)
      unfolding new page_with
      shown =
          ap covered (sketch-here start (page_block x b i) here new new-whole)
          ∙ covered-entries es shape fs fs-few
          ∙ ap (λ (ds : List Entry). paged (encode_page ds []) prev (page_block x b (suc i)) b flags)
          (ap (λ (n : ℕ). insert_at n e es) slot_is ∙ sym (enter-insert_at e es))
          ∙ sym (room-image x b (chain-there h.leaves) e h.leaves.wf.laid h.room)

      -- no page is taken, so first free stays
      first : m.free ≡ first_free y
      first =
          let bits = bits-shaped x (map-shape r) in
          read-free r
          ∙ sym (first_read x (reads-laid r) (block s (map_block x)) bits)
          ∙ first_read y h.leaves.wf.laid (block s (map_block x)) (λ n u.
          bits n u
          ∙ ap (λ (f : Bool). b2n (not f)) (sym (room-free x b (chain-there h.leaves) e n)))

      pub room-plans : (m' : Meta) → m' ≡ fields_of m held m.free m.spares
          → {c₂ : Change} {images₂ : List ℕ} {c₃ : Change} {images₃ : List ℕ}
          → Edited s c₁ images₁ 0 (λ b. meta_front m' ++ drop 492 b) c₂ images₂
          → ((d : List ℕ) → Draft s c₂ images₂ d → Trimmed s d c₃ images₃)
          → Plans s c₃ images₃ (entered (decode s) b e)
      room-plans m' is q t =
          plans-fields r room-sketch y h.leaves.wf.laid (record { size = refl; number = refl })
          (page_block x b i ∷ [])
          (frame-room x (reads-laid r) b (chain-there h.leaves) e none)
          (λ k a. a) ((λ z. page-meta x (reads-laid r) b i inside (sym z)), tt) (shown, tt)
          m'
          (is
          ∙ fields-set r x.spares b (add_entry e (chain x b)) held m.free m.spares h.leaves.held first
          (read-spares r))
          q t
