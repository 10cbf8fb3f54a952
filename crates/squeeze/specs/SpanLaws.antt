-- The pages that a step looks at: all of the chain at first, and after a step those from the page on that it put its
-- entry into, to the page that is last then.
use Rattle.std.specs.Prelude.{◌≡◌, refl, Bool, true, false, cond, List, [], ◌∷◌, ◌++◌, ℕ, suc, ◌+◌, ◌≤◌, eqb, length, get_or}
use Rattle.std.proofs.Common.{sym, ap, ◌∙◌, arith, lt-ltb, ne_eqb, length-append}
use Rattle.std.proofs.lemmas.List.{map-append, length-map, get_or_at}
use Rattle.lists.specs.Block.{block}
use Rattle.page.specs.declared.Entry.{Entry}
use Rattle.page.specs.Entries.{encode_page}
use Rattle.store.specs.Store.{prev_at}
use Rattle.store.specs.Flags.{no_link}
use Rattle.model.specs.Index.{Page, Chain, Index, chain}
use Rattle.model.specs.Pages.{has_room, page_room, enter_entry, add_more, add_entry}
use Rattle.model.specs.Squeeze.{squeezed, moved_to}
use Rattle.model.specs.StandLaws.{chain-here}
use Rattle.model.proofs.SqueezeLaws.{Moving, mover-is, pages, page, rest, behind}
use Rattle.model.proofs.SqueezeStepLaws.{mover-range}
use Rattle.image.specs.declared.Meta.{Meta}
use Rattle.image.specs.Decode.{block_of, decode}
use Rattle.image.specs.PagedLaws.{prev-paged}
use Rattle.image.specs.PageOkLaws.{length-page_front}
use Rattle.frame.specs.Frame.{block_of_bit, place_block, page_block, entries_after, place_entries, page_entries}
use Rattle.frame.specs.Frame.{page_with, first_place, room_place, last_place}
use Rattle.frame.specs.PagesLaws.{room-blocks}
use Rattle.frame.specs.ImagesLaws.{page-image}
use Rattle.frame.specs.ListsLaws.{place-later}
use Rattle.frame.specs.BehindLaws.{last-place, front-place, front-inside, behind-block, behind-last}
use Rattle.chain.specs.Walk.{walk, last_of}
use Rattle.chain.specs.WalkLaws.{walk_first}
use Rattle.view.specs.Reads.{Reads}
use Rattle.view.specs.ReadsLaws.{reads-laid, reads-max}
use Rattle.view.specs.ChainLaws.{walk-read}
use Rattle.view.specs.PlacesLaws.{last-read}
use Rattle.plan.specs.StoreLaws.{block-is, page-under, page-few}
use Rattle.insertion.specs.Put.{last_block}
use Rattle.squeeze.specs.declared.Span.{Span}
use Rattle.squeeze.specs.Move.{Movable}
use Rattle.squeeze.specs.Span.{Spans}

-- ---- all pages

pub spans_all : {s : List ℕ} {m : Meta} (r : Reads s m) (b : ℕ) → b ≤ m.max → {v : Span} → v.first ≡ block_of s b
    → v.last ≡ last_of (walk s v.first) → Spans (decode s) b v
spans_all {s} r b made {v} e f =
    record {
      made = omega (arith, made, reads-max r);
      place = 0;
      inside = omega arith;
      passed = omega arith;
      first = e ∙ sym (walk_first s (block_of s b)) ∙ ap (λ (ks : List ℕ). get_or ks 0 0) (walk-read r b made);
      last = f ∙ ap (λ (k : ℕ). last_of (walk s k)) e ∙ ap last_of (walk-read r b made) ∙ last-read r b made;
    }

-- ---- places of pages with room

-- after an entry was put into the first of them
add-later : (e : Entry) (c : Chain) → room_place c ≤ room_place (add_entry e c)
add-later e c = go (has_room c.first) refl
  where
    more : (gs : List Page) → first_place page_room gs ≤ first_place page_room (add_more e gs)
    more [] = omega arith
    more (g ∷ gs) = at (page_room g) refl (more gs)
      where
        at : (a : Bool) → page_room g ≡ a → first_place page_room gs ≤ first_place page_room (add_more e gs)
            → cond a 0 (suc (first_place page_room gs))
            ≤ first_place page_room (cond a (page g.bit (enter_entry e g.entries) ∷ gs) (g ∷ add_more e gs))
        at true k ih = omega arith
        at false k ih = rw k (omega (arith, ih))

    go : (a : Bool) → has_room c.first ≡ a
        → cond a 0 (suc (first_place page_room c.more))
        ≤ room_place (cond a (pages (enter_entry e c.first) c.more) (pages c.first (add_more e c.more)))
    go true k = omega arith
    go false k = rw k (omega (arith, more c.more))

-- with pages behind them
behind-later : (hs : List Page) (c : Chain) → room_place c ≤ room_place (behind hs c)
behind-later hs c = go (has_room c.first)
  where
    go : (a : Bool)
        → cond a 0 (suc (first_place page_room c.more)) ≤ cond a 0 (suc (first_place page_room (c.more ++ hs)))
    go true = omega arith
    go false = omega (arith, place-later page_room c.more hs)

-- ---- the last page

-- of a chain with one page behind it
end-entries : (c : Chain) (g : Page) → place_entries (behind (g ∷ []) c) (suc (length c.more)) ≡ g.entries
end-entries c g =
    ap (λ (ess : List (List Entry)). get_or (c.first ∷ ess) (suc (length c.more)) [])
    (map-append (λ (h : Page). h.entries) c.more (g ∷ []))
    ∙ get_or_at (c.first ∷ entries_after c.more) g.entries [] [] (suc (length c.more))
    (ap suc (length-map c.more (λ (h : Page). h.entries)))

-- the previous field of a page names the page before it
prev-is : {s : List ℕ} {m : Meta} (r : Reads s m) (b : ℕ) → b ≤ m.max → (i : ℕ)
    → suc i ≤ length (chain (decode s) b).more
    → prev_at (block s (page_block (decode s) b (suc i))) ≡ page_block (decode s) b i
unfolding page_with
prev-is {s} r b made i h =
    let x = decode s in
    let k = page_block x b (suc i) in
    let u = page-under r b made (suc i) h in
    prev-paged (encode_page (page_entries x b (suc i)) []) (length-page_front _ (page-few r b made (suc i) h)) _ _ _ _
    (block s k)
    (block-is r k u ∙ page-image x (reads-laid r) b (suc i) (omega (arith, made, reads-max r)) h)
    (omega (arith, page-under r b made i (omega (arith, h)), (reads-laid r).size))

-- ---- after a step

module _ {s : List ℕ} {m : Meta} {b : ℕ} {e : Entry} {last slot target : ℕ} (h : Movable s m b e last slot target) where
  abbrev x : Index
  x = decode s

  abbrev c : Chain
  c = chain x b

  abbrev y : Index
  y = moved_to x b e

  mv : Moving (chain (decode s) b) e
  mv = mover-is c e h.moves

  -- the pages before the last, and the last
  abbrev front : Chain
  front = pages (chain (decode s) b).first mv.before

  abbrev whole : Page
  whole = page mv.bit (mv.entries ++ e ∷ [])

  abbrev n : ℕ
  n = length mv.before

  shape : chain (decode s) b ≡ behind (whole ∷ []) front
  shape = mv.shape

  -- a block of a page before the last
  front-block : (i : ℕ) → i ≤ length mv.before → page_block (decode s) b i ≡ place_block (decode s) b front i
  front-block i l = ap (λ (d : Chain). place_block x b d i) shape ∙ behind-block x b front (whole ∷ []) i l

  -- ---- the chain that the step leaves

  abbrev put : Chain
  put = add_entry e front

  chain-after : chain (moved_to (decode s) b e) b ≡ behind (rest mv.bit mv.entries) put
  chain-after = chain-here x x.spares b (squeezed e c) (mover-range x b e h.moves) ∙ mv.after

  put-length : length put.more ≡ length mv.before
  put-length =
      let k = ap length (room-blocks x e b front) in
      omega (
        arith,
        k,
        length-map put.more (λ (g : Page). block_of_bit x g.bit),
        length-map mv.before (λ (g : Page). block_of_bit x g.bit),
      )

  put-block : (i : ℕ) → place_block (decode s) b put i ≡ place_block (decode s) b front i
  put-block i = ap (λ (ks : List ℕ). get_or ks i no_link) (room-blocks x e b front)

  -- pages before the last stay where they are
  after_block : (i : ℕ) → i ≤ length mv.before → page_block (moved_to (decode s) b e) b i ≡ page_block (decode s) b i
  after_block i l =
      ap (λ (d : Chain). place_block x b d i) chain-after
      ∙ behind-block x b put (rest mv.bit mv.entries) i (omega (arith, l, put-length))
      ∙ put-block i
      ∙ sym (front-block i l)

  after-length : last_place (chain (moved_to (decode s) b e) b)
      ≡ length mv.before + length (rest mv.bit mv.entries)
  after-length =
      ap (λ (d : Chain). length d.more) chain-after
      ∙ length-append put.more (rest mv.bit mv.entries)
      ∙ omega (arith, put-length)

  -- the entries of the last page: that which moves comes after as many as its slot says
  module _ (here : last ≡ last_block (decode s) b)
      (number : suc slot ≡ length (page_entries (decode s) b (last_place (chain (decode s) b)))) where
    slot_is : slot ≡ length mv.entries
    slot_is =
        let k = ap length ((λ t. place_entries (shape t) (last-place mv t)) ∙ end-entries front whole) in
        omega (arith, number, k, length-append mv.entries (e ∷ []))

    last-is : (es : List Entry) → mv.entries ≡ es
        → cond (eqb (length es) 0) (prev_at (block s last)) last ≡ last_block (moved_to (decode s) b e) b
    last-is [] q =
        let gone : last_place (chain y b) ≡ n =
        after-length ∙ ap (λ (es : List Entry). n + length (rest mv.bit es)) q ∙ omega arith in
        ap (λ (k : ℕ). prev_at (block s k)) (here ∙ ap (page_block x b) (last-place mv))
        ∙ prev-is h.reads b h.made n (omega (arith, last-place mv))
        ∙ sym (ap (page_block y b) gone ∙ after_block n (omega arith))
    last-is (d ∷ es) q =
        let g : Page = page mv.bit (d ∷ es) in
        let used : rest mv.bit mv.entries ≡ g ∷ [] =
        ap (rest mv.bit) q ∙ ap (λ (a : Bool). cond a (g ∷ []) []) (lt-ltb 0 (suc (length es)) (omega arith)) in
        let same : chain y b ≡ behind (g ∷ []) put = chain-after ∙ ap (λ (hs : List Page). behind hs put) used in
        let stays : last_place (chain y b) ≡ suc (length put.more) =
        after-length ∙ ap (λ (hs : List Page). n + length hs) used ∙ omega (arith, put-length) in
        ap (λ (a : Bool). cond a (prev_at (block s last)) last) (ne_eqb (suc (length es)) 0 (λ z. omega arith))
        ∙ here
        ∙ (λ t. place_block x b (shape t) (last-place mv t))
        ∙ behind-last x b front whole
        ∙ sym ((λ t. place_block x b (same t) (stays t)) ∙ behind-last x b put g)

    pub span-next : {v : Span} → v.first ≡ target → v.last ≡ cond (eqb slot 0) (prev_at (block s last)) last
        → Spans (moved_to (decode s) b e) b v
    span-next {v} f l =
        record {
          made = omega (arith, h.made, reads-max h.reads);
          place = room_place front;
          inside = omega (arith, front-inside mv, after-length);
          passed =
              omega (
                arith,
                add-later e front,
                behind-later (rest mv.bit mv.entries) put,
                ap room_place chain-after,
              );
          first =
              f ∙ h.room.page ∙ ap (page_block x b) (front-place mv)
              ∙ sym (after_block (room_place front) (front-inside mv));
          last =
              l ∙ ap (λ (k : ℕ). cond (eqb k 0) (prev_at (block s last)) last) slot_is ∙ last-is mv.entries refl;
        }
