-- An entry put into the next block past the made ones, at a chain's end: the plan.
use Rattle.std.specs.Prelude.{◌≡◌, refl, ◌≢◌, List, [], ◌∷◌, ◌++◌, ℕ, suc, ◌<◌, drop, set, None}
use Rattle.std.proofs.Common.{sym, ap, ◌∙◌, arith, get_or-set_same}
use Rattle.lists.specs.Block.{block}
use Rattle.address.specs.Address.{point, made}
use Rattle.address.specs.BlockLaws.{point-pos, bit-made}
use Rattle.address.specs.SparesLaws.{bit-spares}
use Rattle.page.specs.declared.Entry.{Entry}
use Rattle.store.specs.declared.Change.{Change}
use Rattle.store.specs.Store.{covered}
use Rattle.model.specs.Index.{Index, chain, top_bit}
use Rattle.model.specs.Pages.{add_page, first_free}
use Rattle.model.specs.WellFormed.{Laid}
use Rattle.image.specs.declared.Meta.{Meta}
use Rattle.image.specs.Layout.{meta_front, map_front, map_bit, encode_block}
use Rattle.store.specs.Flags.{no_link}
use Rattle.image.specs.Decode.{decode}
use Rattle.image.specs.BitmapLaws.{length-map_front}
use Rattle.frame.specs.Frame.{Apart, block_of_bit, map_block, last_place}
use Rattle.frame.specs.ApartLaws.{page-map}
use Rattle.frame.specs.FreshLaws.{more_spares, next-block, frame_fresh, fresh-blocks}
use Rattle.frame.specs.ImagesLaws.{top_one, map-image}
use Rattle.chain.specs.Bitmap.{free_or, lowest_free}
use Rattle.view.specs.Reads.{Reads}
use Rattle.view.specs.ReadsLaws.{reads-laid, reads-max}
use Rattle.draft.specs.Draft.{Draft, Ready, Edited}
use Rattle.draft.specs.Trim.{Trimmed}
use Rattle.plan.specs.Fields.{fields_of}
use Rattle.plan.specs.Plan.{Plans}
use Rattle.plan.specs.ShapeLaws.{shaped-paged}
use Rattle.plan.specs.StoreLaws.{block-is, map-inside, block-full}
use Rattle.insertion.specs.Put.{last_block, extended, AtEnd, Linked}
use Rattle.plan.specs.FieldLaws.{read_made}
use Rattle.insertion.specs.FieldLaws.{more-spares, fields-set}
use Rattle.insertion.specs.FreeLaws.{bits-shaped, first_read}
use Rattle.insertion.specs.PlanFieldsLaws.{fields-ready, plans-fields}
use Rattle.insertion.specs.PutLaws.{chain-there}
use Rattle.insertion.specs.LinkLaws.{last-meta, last-shown, new-shown}
use Rattle.insertion.specs.LinkLaws.{bit-some, page-low}

module _ {s : List ℕ} {m : Meta} {b last : ℕ} {e : Entry} {held : ℕ}
    (h : AtEnd s m b last e held (more_spares (decode s)) (top_bit (decode s)))
    (room : made (decode s).spares (point (decode s).max_bucket) < (decode s).size) where
  abbrev x : Index
  x = decode s

  abbrev y : Index
  y = extended x (more_spares x) b (top_bit x) e

  abbrev L : ℕ
  L = last_block x b

  abbrev K : ℕ
  K = block_of_bit x (top_bit x)

  r : Reads s m
  r = h.leaves.reads

  laid : Laid x
  laid = reads-laid r

  new_is : K ≡ made x.spares (point x.max_bucket)
  new_is = next-block x x.size laid.spares room

  -- the number of made blocks, read as code reads it
  pub fresh-is : made m.spares m.point ≡ block_of_bit (decode s) (top_bit (decode s))
  fresh-is = read_made r ∙ sym new_is

  apart : L ≢ K
  apart q =
      omega (
        arith,
        q,
        new_is,
        page-low x laid b (last_place (chain x b)) (omega (arith, h.leaves.made, reads-max r)) (omega arith),
      )

  -- the bitmap stays, and has no free bit
  map_same : map_block y ≡ map_block x
  map_same =
      bit-spares x.spares (point x.max_bucket) x.size laid.spares (point-pos x.max_bucket)
      (suc (top_bit x)) 0

  map-low : map_block x < made x.spares (point x.max_bucket)
  map-low =
      bit-made x.spares (point x.max_bucket) x.size laid.spares (point-pos x.max_bucket) 0
      (top_one x laid)

  frame : (k : ℕ) → Apart k (0 ∷ L ∷ K ∷ []) → encode_block y k ≡ encode_block x k
  frame = frame_fresh x laid b (chain-there h.leaves) e room

  not_last : map_block x ≢ L
  not_last q =
      page-map x laid b (last_place (chain x b)) (omega (arith, h.leaves.made, reads-max r)) (omega arith) (sym q)

  map-stays : covered (block s (map_block x)) ≡ encode_block y (map_block y)
  map-stays =
      block-is r (map_block x) (map-inside r)
      ∙ sym (frame (map_block x) (bit-some x laid 0, (not_last, ((λ q. omega (arith, q, new_is, map-low)), tt))))
      ∙ ap (encode_block y) (sym map_same)

  top-more : top_bit y ≡ suc (top_bit x)
  top-more =
      get_or-set_same x.spares (point x.max_bucket) (suc (top_bit x)) 0 (omega (arith, laid.spares.points))

  pub fresh-first : lowest_free (block s (map_block (decode s))) ≡ None
      → suc (top_bit (decode s)) ≡ first_free (extended (decode s) (more_spares (decode s)) b (top_bit (decode s)) e)
  fresh-first none =
      let w : Laid y = h.leaves.wf.laid in
      sym top-more ∙ ap (free_or (top_bit y)) (sym none)
      ∙ first_read y w (block s (map_block x))
      (bits-shaped y
      (shaped-paged (map_front (map_bit y)) no_link no_link no_link 4 (length-map_front (map_bit y))
      (block-full r (map_block x) (map-inside r)) (map-stays ∙ map-image y w)))

  module _ {c : Change} {images : List ℕ}
      (p : Linked s b (last_block (decode s) b)
      (block_of_bit (decode s) (top_bit (decode s))) e c images) where
    pub fresh-fields : (d : List ℕ) × Ready s c images d 0
    fresh-fields = (_, fields-ready r p.sketch (omega arith))

    pub fresh-plans : (m' : Meta) (first : ℕ) (spares : List ℕ) → m' ≡ fields_of m held first spares
        → first ≡ first_free (extended (decode s) (more_spares (decode s)) b (top_bit (decode s)) e)
        → spares ≡ set m.spares m.point (suc (top_bit (decode s)))
        → {c₁ : Change} {images₁ : List ℕ} {c₂ : Change} {images₂ : List ℕ}
        → Edited s c images 0 (λ b. meta_front m' ++ drop 492 b) c₁ images₁
        → ((d : List ℕ) → Draft s c₁ images₁ d → Trimmed s d c₂ images₂)
        → Plans s c₂ images₂ (extended (decode s) (more_spares (decode s)) b (top_bit (decode s)) e)
    fresh-plans m' first spares new is same f t =
        let at = fresh-blocks x laid b (chain-there h.leaves) e room (add_page (top_bit x) e (chain x b)) in
        plans-fields r p.sketch y h.leaves.wf.laid (record { size = refl; number = refl }) (L ∷ K ∷ []) frame
        (λ k a. (a.1.0, (a.0, tt)))
        ((λ z. bit-some x laid (top_bit x) (sym z)), ((λ z. last-meta h (sym z)), tt))
        (last-shown h at apart p, (new-shown h at apart p, tt))
        m'
        (new
        ∙ fields-set r (more_spares x) b (add_page (top_bit x) e (chain x b)) held first spares h.leaves.held is
        (same ∙ more-spares r))
        f t
