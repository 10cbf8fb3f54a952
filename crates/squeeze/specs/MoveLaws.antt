-- An entry taken out of the last page and put into an earlier one: the draft after both edits, and what ends the
-- change.
use Rattle.std.specs.Prelude.{◌≡◌, ◌≢◌, Bool, not, ℕ, suc, ◌≤◌, ◌<◌, length}
use Rattle.std.proofs.Math.Path.{refl, sym, ap}
use Rattle.std.proofs.Common.{◌∙◌, subst, arith}
use mathlib.Core.List.{List, [], ◌∷◌, ◌++◌}
use Rattle.std.proofs.Math.Option.{none}
use Rattle.std.proofs.Math.Decide.{ℕ_discrete}
use Rattle.lists.specs.Lists.{b2n}
use Rattle.lists.specs.Block.{blocks, block, set_block}
use Rattle.lists.specs.BlockLaws.{length-block}
use Rattle.address.specs.Address.{last_split}
use Rattle.page.specs.declared.Entry.{Entry}
use Rattle.page.specs.Entries.{encode_page, entries_of}
use Rattle.page.specs.Places.{place_of, insert_at}
use Rattle.page.specs.Gap.{Room}
use Rattle.page.specs.PlaceLaws.{place-le, enter-insert_at}
use Rattle.page.specs.SlotLaws.{length-insert_at}
use Rattle.store.specs.declared.Change.{Change}
use Rattle.store.specs.Store.{trailer, covered}
use Rattle.model.specs.Index.{Index, chain}
use Rattle.model.specs.Pages.{first_free, cut}
use Rattle.model.specs.Held.{count}
use Rattle.model.proofs.MachineLaws.{never}
use Rattle.image.specs.declared.Meta.{Meta}
use Rattle.image.specs.Layout.{paged, flags_of, meta_of, map_bit, encode_block}
use Rattle.image.specs.Decode.{decode}
use Rattle.image.specs.PageOkLaws.{length-page_front}
use Rattle.image.proofs.EncodeLaws.{bit-inside}
use Rattle.frame.specs.Frame.{map_block, chain_blocks, page_block, page_entries, prev_in, flags_for, page_with, room_place}
use Rattle.frame.specs.Frame.{cut_blocks}
use Rattle.frame.specs.ImagesLaws.{top_one, page-image}
use Rattle.frame.specs.MetaLaws.{room-free}
use Rattle.frame.specs.PagesLaws.{room-image}
use Rattle.frame.specs.PutLaws.{frame-room}
use Rattle.frame.specs.RemoveLaws.{frame-cut}
use Rattle.view.specs.ReadsLaws.{reads-laid, reads-meta}
use Rattle.draft.specs.Draft.{Ready, PageEdited}
use Rattle.draft.specs.DraftLaws.{length-draft}
use Rattle.draft.specs.ShapeLaws.{room-page}
use Rattle.plan.specs.Fields.{fields_after}
use Rattle.plan.specs.FieldLaws.{read-free}
use Rattle.plan.specs.ShapeLaws.{shaped-paged, shaped-length, shaped-page, shaped-entries, covered-entries}
use Rattle.plan.specs.Sketch.{Sketch}
use Rattle.plan.specs.SketchLaws.{ready, sketch-here, sketch-there, sketch-more, page-edited}
use Rattle.insertion.specs.Put.{entered}
use Rattle.std.specs.Prelude.{Option as Freed, None}
use Rattle.removal.specs.Freeing.{freed_at, clears, lowers, Below}
use Rattle.removal.specs.Cutting.{Shows, ShapedAt, Sketches}
use Rattle.removal.specs.Ending.{Ending}
use Rattle.removal.specs.StartLaws.{sketches-wider}
use Rattle.removal.specs.FirstFreeLaws.{first-freed}
use Rattle.removal.specs.CutFieldLaws.{cut-bits, cut_below, cut-free}
use Rattle.squeeze.specs.Move.{Movable}
use Rattle.squeeze.specs.TargetLaws.{once, fits, cut_fits, laid-cut, cut_low, cut-size, room_cut, inside-cut}
use Rattle.squeeze.specs.TargetLaws.{target_is, target-read, target-few, target-under, target-no-meta}
use Rattle.squeeze.specs.TargetLaws.{target-no-map, moved-wf, moved-count}

module _ {s : List ℕ} {m : Meta} {b : ℕ} {e : Entry} {last from k : ℕ} (h : Movable s m b e last from k)
    {c : Change} {images : List ℕ} (g : Sketches s c images 3 (cut e.pair b (decode s))) where
  abbrev x : Index
  x = decode s

  -- without the entry, and with it again
  abbrev z : Index
  z = cut e.pair b x

  abbrev y : Index
  y = entered z b e

  abbrev i : ℕ
  i = room_place (chain z b)

  abbrev es : List Entry
  es = page_entries z b i

  abbrev prev : ℕ
  prev = prev_in (last_split z.max_bucket b) (chain_blocks z b (chain z b)) i

  abbrev after : ℕ
  after = page_block z b (suc i)

  abbrev flags : ℕ
  flags = flags_for (flags_of z b) i

  -- ---- the draft in which the entry is out

  shape : ShapedAt z b i (block g.d k)
  unfolding page_with
  shape =
      let d = g.sketch.draft in
      shaped-paged (encode_page es []) prev after b flags (length-page_front es (omega (arith, target-few h)))
      (length-block g.d k (omega (arith, target-under h, length-draft d, d.whole)))
      (g.shows.pages k (omega (arith, target-under h, cut-size h)) (target-no-meta h) (target-no-map h)
      ∙ ap (encode_block z) (target_is h) ∙ page-image z (laid-cut h) b i (cut_low h) (inside-cut h))

  whole : length (block g.d k) ≡ 512
  whole = shaped-length (length-page_front es (omega (arith, target-few h))) shape

  module _ {slot : ℕ} (found : slot ≡ place_of e.pair (entries_of (block s k))) where
    slot_is : slot ≡ place_of e.pair es
    slot_is = found ∙ ap (place_of e.pair) (target-read h)

    pub target-ready : (d : List ℕ) × Ready s c images d k × Room (block d k) slot
    target-ready = (
      g.d,
      ready g.sketch k (target-under h) (omega arith),
      room-page (block g.d k) es _ whole (shaped-page es shape) slot (target-few h)
          (omega (arith, slot_is, place-le e.pair es)),
    )

    -- ---- the page with the entry

    module _ {c₁ : Change} {images₁ : List ℕ} (q : PageEdited s c images k (insert_at slot e) c₁ images₁) where
      abbrev fs : List Entry
      fs = insert_at slot e es

      fs-few : length (insert_at slot e es) ≤ 40
      fs-few = omega (arith, length-insert_at slot e es, target-few h)

      new : List ℕ
      new = encode_page (insert_at slot e es) (trailer prev after b flags ++ shape.rest)

      new-whole : length new ≡ 512
      unfolding new
      new-whole = shaped-length (length-page_front fs fs-few) (shaped-entries es shape fs)

      sketch : Sketch s c₁ images₁ (set_block g.d k new) 4 (k ∷ g.ks)
      unfolding new
      sketch =
          sketch-more g.sketch k (target-under h) new new-whole q.lists
          (page-edited g.sketch q es _ (shaped-page es shape))

      covered-new : covered new ≡ encode_block y k
      unfolding new page_with
      covered-new =
          covered-entries es shape fs fs-few
          ∙ ap (λ (ds : List Entry). paged (encode_page ds []) prev after b flags)
          (ap (λ (n : ℕ). insert_at n e es) slot_is ∙ sym (enter-insert_at e es))
          ∙ sym (ap (encode_block y) (target_is h) ∙ room-image z b (cut_fits h) e (moved-wf h).laid (room_cut h))

      -- no other block alters
      frame-moved : (j : ℕ) → j ≢ 0 → j ≢ k → encode_block y j ≡ encode_block z j
      frame-moved j nz ne =
          frame-room z (laid-cut h) b (cut_fits h) e none j (nz, ((λ w. ne (w ∙ sym (target_is h))), tt))

      shows : Shows s (set_block g.d k new) y
      shows =
          record {
            pages = λ j u nz nm. at j u nz nm (ℕ_discrete j k);
            meta = other 0 (omega (arith, target-under h)) (λ w. target-no-meta h (sym w)) ∙ g.shows.meta;
            map = other (map_block z) map-under (λ w. target-no-map h (sym w)) ∙ g.shows.map;
          }
        where
          other : (j : ℕ) → j < blocks s → j ≢ k → block (set_block g.d k new) j ≡ block g.d j
          other = sketch-there g.sketch k (target-under h) new new-whole

          map-under : map_block z < blocks s
          map-under = omega (arith, bit-inside z (laid-cut h) 0 (top_one z (laid-cut h)), cut-size h)

          at : (j : ℕ) → j < z.size → j ≢ 0 → j ≢ map_block z → Dec (j ≡ k)
              → covered (block (set_block g.d k new) j) ≡ encode_block y j
          at j u nz nm (yes w) =
              subst (λ (n : ℕ). covered (block (set_block g.d k new) n) ≡ encode_block y n) (sym w)
              (ap covered (sketch-here g.sketch k (target-under h) new new-whole) ∙ covered-new)
          at j u nz nm (no w) =
              ap covered (other j (omega (arith, u, cut-size h)) w) ∙ g.shows.pages j u nz nm
              ∙ sym (frame-moved j nz w)

      -- ---- what ends the change

      map-bits : (j : ℕ) → map_bit y j ≡ map_bit z j
      map-bits j = ap (λ (f : Bool). b2n (not f)) (room-free z b (cut_fits h) e j)

      free-is : first_free y ≡ first_free z
      free-is = first-freed z y (laid-cut h) (moved-wf h).laid refl None map-bits (λ n w. never (cc))

      meta-is : meta_of y ≡ fields_after (meta_of x) (count y) (first_free y)
      unfolding meta_of cut
      meta-is = refl

      pub move-ending : {f : Freed ℕ} → f ≡ freed_at (decode s) b e.pair
          → Ending s m c₁ images₁ m.count f None (entered (cut e.pair b (decode s)) b e)
      move-ending {f} w =
          let l = reads-laid h.reads in
          let p = e.pair in
          record {
            reads = h.reads;
            sketches =
                sketches-wider (record { d = set_block g.d k new; ks = k ∷ g.ks; sketch = sketch; shows = shows }) 6
                (omega arith);
            laid = (moved-wf h).laid;
            same = unfold cut in record { size = refl; number = refl };
            map = unfold cut in refl;
            below = (subst Below (sym w) (cut_below x l b (fits h) p (once h)), tt);
            bits =
                λ j. map-bits j ∙ cut-bits x l b (fits h) p (once h) j
                ∙ ap (λ (f : Freed ℕ). clears f (map_bit x) j) (sym w);
            meta =
                meta-is
                ∙ (λ t. fields_after (sym (reads-meta h.reads) t) (moved-count h t)
                ((free-is ∙ cut-free x l b (fits h) p (once h)
                ∙ (λ u. lowers (sym w u) (sym (read-free h.reads) u))) t));
            js = k ∷ cut_blocks x b p;
            frame = λ j a. frame-moved j a.1.0 a.0 ∙ frame-cut x l b (fits h) p (once h) j a.1;
          }
