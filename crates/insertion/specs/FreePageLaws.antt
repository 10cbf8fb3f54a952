-- An entry put into a free page at a chain's end: the plan.
use Rattle.std.specs.Prelude.{◌≡◌, refl, ◌≢◌, true, cond, List, [], ◌∷◌, ◌++◌, ℕ, ◌≤◌, ◌<◌, eqb, length, drop}
use Rattle.std.proofs.Common.{sym, ap, ap₂, ◌∙◌, subst, arith}
use Rattle.lists.specs.ListsLaws.{eqb_yes, eqb_no}
use Rattle.lists.specs.Block.{blocks, block, set_block}
use Rattle.address.specs.Address.{point}
use Rattle.address.specs.BlockLaws.{point-pos, bit-apart}
use Rattle.page.specs.declared.Entry.{Entry}
use Rattle.store.specs.declared.Change.{Change}
use Rattle.store.specs.Store.{covered}
use Rattle.model.specs.Index.{Index, chain, top_bit}
use Rattle.model.specs.Pages.{add_page, first_free}
use Rattle.model.specs.WellFormed.{Laid}
use Rattle.image.specs.declared.Meta.{Meta}
use Rattle.image.specs.Layout.{meta_front, map_front, map_bit, encode_block}
use Rattle.store.specs.Flags.{no_link}
use Rattle.image.specs.Decode.{decode}
use Rattle.image.specs.BitmapLaws.{length-map_front}
use Rattle.image.proofs.BoundLaws.{top_small}
use Rattle.image.proofs.EncodeLaws.{map_bit-lt, bit-inside}
use Rattle.frame.specs.Frame.{block_of_bit, map_block, page_block, last_place}
use Rattle.frame.specs.ApartLaws.{page-unused, page-map}
use Rattle.frame.specs.ChainLaws.{Free}
use Rattle.frame.specs.ImagesLaws.{top_one, map-image}
use Rattle.frame.specs.PagesLaws.{taken-map}
use Rattle.frame.specs.PutLaws.{frame-again}
use Rattle.chain.specs.Bitmap.{free_or, lowest_free}
use Rattle.view.specs.Reads.{Reads}
use Rattle.view.specs.ReadsLaws.{reads-laid, reads-size, reads-max}
use Rattle.draft.specs.Bits.{put_bit}
use Rattle.draft.specs.Draft.{Draft, Ready, Edited}
use Rattle.draft.specs.Trim.{Trimmed}
use Rattle.plan.specs.Fields.{fields_of}
use Rattle.plan.specs.Plan.{Plans}
use Rattle.plan.specs.Shape.{Shaped}
use Rattle.plan.specs.ShapeLaws.{shaped-length, shaped-covered, shaped-bit}
use Rattle.plan.specs.Sketch.{Sketch}
use Rattle.plan.specs.SketchLaws.{ready, sketch-here, sketch-there, sketch-more, edited}
use Rattle.plan.specs.StoreLaws.{map-inside, map-shape}
use Rattle.insertion.specs.Put.{last_block, extended, AtEnd, Linked}
use Rattle.plan.specs.FieldLaws.{read-spares}
use Rattle.insertion.specs.FieldLaws.{fields-set}
use Rattle.insertion.specs.FreeLaws.{bits-shaped, bits_put, first_read}
use Rattle.insertion.specs.PlanFieldsLaws.{fields-ready, plans-fields}
use Rattle.insertion.specs.PutLaws.{chain-there}
use Rattle.insertion.specs.LinkLaws.{last_under, last-meta, last-shown, new-shown}
use Rattle.insertion.specs.LinkLaws.{bit-some}

module _ {s : List ℕ} {m : Meta} {b last : ℕ} {e : Entry} {held n : ℕ}
    (h : AtEnd s m b last e held (decode s).spares n) (free : Free (decode s) n) where
  abbrev x : Index
  x = decode s

  abbrev y : Index
  y = extended x x.spares b n e

  abbrev i : ℕ
  i = last_place (chain x b)

  abbrev L : ℕ
  L = page_block x b i

  abbrev K : ℕ
  K = block_of_bit x n

  abbrev M : ℕ
  M = map_block x

  r : Reads s m
  r = h.leaves.reads

  laid : Laid x
  laid = reads-laid r

  under : b ≤ x.max_bucket
  under = omega (arith, h.leaves.made, reads-max r)

  pub free-small : n < 2048
  free-small = omega (arith, free.1, top_small x laid)

  pub free-under : block_of_bit (decode s) n < blocks s
  free-under = omega (arith, bit-inside x laid n free.1, reads-size r)

  apart : L ≢ K
  apart = page-unused x laid b i n under (omega arith) free.1 free.2

  map_last : L ≢ M
  map_last = page-map x laid b i under (omega arith)

  map-new : M ≢ K
  map-new =
      bit-apart x.spares (point x.max_bucket) x.size laid.spares (point-pos x.max_bucket) 0 n
      (top_one x laid) free.1 (λ q. omega (arith, q, free.0))

  map-here : M < blocks s
  map-here = omega (arith, map-inside r, reads-size r)

  taken : (k : ℕ) → map_bit y k ≡ cond (eqb k n) 1 (map_bit x k)
  taken k = taken-map x b (chain-there h.leaves) e n k

  bitmap : Shaped (put_bit (block s M) n true) (map_front (map_bit y)) no_link no_link no_link 4
  bitmap =
      shaped-bit (map_bit x) (map_bit y) (map_bit-lt x) n true free-small (taken n ∙ rw (eqb_yes n n refl))
      (λ k u ne. taken k ∙ rw (eqb_no k n ne)) (map-shape r)

  whole : length (put_bit (block s M) n true) ≡ 512
  whole = shaped-length (length-map_front (map_bit y)) bitmap

  -- first free afterwards, of the bitmap and spares[s]
  pub free-first : (l : List ℕ) (top : ℕ) → l ≡ block s (map_block (decode s)) → top ≡ top_bit (decode s)
      → free_or top (lowest_free (put_bit l n true)) ≡ first_free (extended (decode s) (decode s).spares b n e)
  free-first l top same high =
      ap₂ (λ (t : ℕ) (d : List ℕ). free_or t (lowest_free (put_bit d n true))) high same
      ∙ first_read y h.leaves.wf.laid (put_bit (block s M) n true) (λ k u.
      bits_put (block s M) (map_bit x) n free-small (shaped-length (length-map_front (map_bit x)) (map-shape r))
      (bits-shaped x (map-shape r)) k u
      ∙ sym (taken k))

  module _ {c : Change} {images : List ℕ}
      (p : Linked s b (last_block (decode s) b) (block_of_bit (decode s) n) e c images)
      (k : ℕ) (is : k ≡ map_block (decode s)) where
    pub bit-ready : (d : List ℕ) × Ready s c images d k
    bit-ready = (_, ready p.sketch k (rw is map-here) (omega arith))

    map-kept : block p.draft M ≡ block s M
    map-kept = p.sketch.rest M map-here (map-new, ((λ q. map_last (sym q)), tt))

    module _ {c₁ : Change} {images₁ : List ℕ}
        (edit : Edited s c images k (λ d. put_bit d n true) c₁ images₁) where
      q : Edited s c images M (λ d. put_bit d n true) c₁ images₁
      q = subst (λ (j : ℕ). Edited s c images j (λ d. put_bit d n true) c₁ images₁) is edit

      put_whole : length (put_bit (block p.draft M) n true) ≡ 512
      put_whole = rw map-kept whole

      abbrev d₁ : List ℕ
      d₁ = set_block p.draft M (put_bit (block p.draft M) n true)

      mapped : Sketch s c₁ images₁ d₁ 3 (M ∷ K ∷ L ∷ [])
      mapped = sketch-more p.sketch M map-here _ put_whole q.lists (edited p.sketch q)

      pub free-fields : (d : List ℕ) × Ready s c₁ images₁ d 0
      free-fields = (_, fields-ready r mapped (omega arith))

      map-shown : covered (block d₁ M) ≡ encode_block y M
      map-shown =
          ap covered (sketch-here p.sketch M map-here _ put_whole)
          ∙ ap (λ (l : List ℕ). covered (put_bit l n true)) map-kept
          ∙ shaped-covered (length-map_front (map_bit y)) bitmap
          ∙ sym (map-image y h.leaves.wf.laid)

      other : (k : ℕ) → k < blocks s → k ≢ M → covered (block d₁ k) ≡ covered (block p.draft k)
      other k u ne = ap covered (sketch-there p.sketch M map-here _ put_whole k u ne)

      pub free-plans : (m' : Meta) (first : ℕ) → m' ≡ fields_of m held first m.spares
          → first ≡ first_free (extended (decode s) (decode s).spares b n e)
          → {c₂ : Change} {images₂ : List ℕ} {c₃ : Change} {images₃ : List ℕ}
          → Edited s c₁ images₁ 0 (λ b. meta_front m' ++ drop 492 b) c₂ images₂
          → ((d : List ℕ) → Draft s c₂ images₂ d → Trimmed s d c₃ images₃)
          → Plans s c₃ images₃ (extended (decode s) (decode s).spares b n e)
      free-plans m' first new ends f t =
          plans-fields r mapped y h.leaves.wf.laid (record { size = refl; number = refl }) (M ∷ L ∷ K ∷ [])
          (frame-again x laid b (chain-there h.leaves) e n)
          (λ k a. (a.0, (a.1.1.0, (a.1.0, tt))))
          ((λ z. bit-some x laid 0 (sym z)), ((λ z. bit-some x laid n (sym z)), ((λ z. last-meta h (sym z)), tt))) (
            map-shown,
            (
              other L last-here map_last ∙ last-shown h refl apart p,
              (other K free-under (λ z. map-new (sym z)) ∙ new-shown h refl apart p, tt),
            ),
          )
          m'
          (new
          ∙ fields-set r x.spares b (add_page n e (chain x b)) held first m.spares h.leaves.held ends
          (read-spares r))
          f t
        where
          last-here : L < blocks s
          last-here = rw h.page at (last_under h)
