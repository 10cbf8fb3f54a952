-- A page of one entry at a chain's end: its block, and the link from the last page.
use Rattle.std.specs.Prelude.{◌≡◌, ◌≢◌, length}
use Rattle.std.proofs.Math.Path.{sym, ap, subst}
use Rattle.std.proofs.Common.{◌∙◌, subst₂, arith}
use mathlib.Core.List.{List, [], ◌∷◌, ◌++◌}
use Prim.Native.Nat.{ℕ, zero, suc, ◌≤◌, ◌<◌}
use Rattle.std.proofs.Math.ListN.{drop}
use Rattle.std.proofs.lemmas.List.Edits.{sets}
use Rattle.std.proofs.Math.Seq.{length-sets}
use Rattle.lists.specs.Block.{blocks, block, set_block}
use Rattle.lists.specs.BlockLaws.{length-block}
use Rattle.address.specs.Address.{point, made}
use Rattle.address.specs.BlockLaws.{point-pos, bit-pos, bit-made, bucket-made}
use Rattle.endian.specs.Endian.{le32}
use Rattle.page.specs.declared.Entry.{Entry}
use Rattle.page.specs.Entries.{encode_page}
use Rattle.store.specs.declared.Change.{Change}
use Rattle.store.specs.Store.{trailer, covered}
use Rattle.model.specs.Index.{Index, chain}
use Rattle.model.specs.WellFormed.{Laid}
use Rattle.image.specs.declared.Meta.{Meta}
use Rattle.image.specs.Layout.{encode_block}
use Rattle.store.specs.Flags.{no_link}
use Rattle.image.specs.Decode.{decode}
use Rattle.image.specs.PageOkLaws.{length-page_front}
use Rattle.frame.specs.Frame.{block_of_bit, chain_blocks, page_block, page_entries, page_with, last_place}
use Rattle.image.proofs.BoundLaws.{max-under}
use Rattle.frame.specs.ApartLaws.{page-meta}
use Rattle.frame.specs.ImagesLaws.{page-made, page-block}
use Rattle.frame.specs.PagesLaws.{last-image, new-image}
use Rattle.model.specs.Pages.{add_page}
use Rattle.view.specs.Reads.{Reads}
use Rattle.view.specs.ReadsLaws.{reads-laid, reads-size}
use Rattle.draft.specs.Draft.{Draft, Ready, Edited}
use Rattle.draft.specs.DraftLaws.{length-draft}
use Rattle.plan.specs.Shape.{Shaped}
use Rattle.plan.specs.ShapeLaws.{shaped-length, shaped-covered, shaped-next, shaped-new}
use Rattle.plan.specs.Sketch.{Sketch}
use Rattle.plan.specs.SketchLaws.{sketch-none, ready, sketch-here, sketch-there, sketch-more, edited}
use Rattle.plan.specs.StoreLaws.{page-under, page-few, page-shape}
use Rattle.insertion.specs.Put.{last_block, extended, AtEnd, Linked}
use Rattle.insertion.specs.PutLaws.{chain-there}

-- ---- where the blocks stand

module _ (x : Index) (l : Laid x) where
  abbrev p : ℕ
  p = point x.max_bucket

  pub bit-some : (n : ℕ) → block_of_bit x n ≢ 0
  bit-some n q = omega (arith, q, bit-pos x.spares p x.size l.spares (point-pos x.max_bucket) n)

  -- a page of a chain stands in a made block
  pub page-low : (b i : ℕ) → b ≤ x.max_bucket → i ≤ length (chain x b).more
      → page_block x b i < made x.spares (point x.max_bucket)
  page-low b zero hb hi =
      bucket-made x.spares p x.size l.spares (point-pos x.max_bucket) b (omega (arith, max-under x l))
  page-low b (suc i) hb hi =
      rw (page-block x l b i hi)
      (bit-made x.spares p x.size l.spares (point-pos x.max_bucket) _ (page-made x l b i hi).1)

-- ---- the two edits

module _ {s : List ℕ} {c : Change} {images : List ℕ} (g : Draft s c images s) (z : c.count ≡ 0) (last k : ℕ)
    (there : last < blocks s) (here : k < blocks s) where
  start : Sketch s c images s 0 []
  start = sketch-none g z

  pub link-ready : (d : List ℕ) × Ready s c images d last
  link-ready = (s, ready start last there (omega arith))

  module _ {c₁ : Change} {images₁ : List ℕ} (l : Edited s c images last (λ b. sets b 496 (le32 k)) c₁ images₁) where
    link : List ℕ
    link = sets (block s last) 496 (le32 k)

    link-whole : length link ≡ 512
    unfolding link
    link-whole =
        length-sets (block s last) 496 (le32 k) ∙ length-block s last (omega (arith, g.whole))

    abbrev d₁ : List ℕ
    d₁ = set_block s last (sets (block s last) 496 (le32 k))

    linked : Sketch s c₁ images₁ d₁ 1 (last ∷ [])
    unfolding link
    linked = sketch-more start last there link link-whole l.lists (edited start l)

    pub page-ready : (d : List ℕ) × Ready s c₁ images₁ d k
    page-ready = (_, ready linked k here (omega arith))

    pub page-linked : (b : ℕ) (e : Entry) {c₂ : Change} {images₂ : List ℕ}
        → Edited s c₁ images₁ k (λ d. encode_page (e ∷ []) (trailer last no_link b 1 ++ drop 508 d)) c₂ images₂
        → Linked s b last k e c₂ images₂
    unfolding link
    page-linked b e w =
        record {
          draft = set_block d₁ k new;
          sketch = sketch-more linked k here new whole w.lists (edited linked w);
          page = subst (λ (p : List ℕ). Shaped p (encode_page (e ∷ []) []) last no_link b 1)
              (sym (sketch-here linked k here new whole)) shape;
          before =
              λ ne. sketch-there linked k here new whole last there ne ∙ sketch-here start last there link link-whole;
        }
      where
        new : List ℕ
        new = encode_page (e ∷ []) (trailer last no_link b 1 ++ drop 508 (block d₁ k))

        shape : Shaped (encode_page (e ∷ []) (trailer last no_link b 1 ++ drop 508 (block d₁ k)))
            (encode_page (e ∷ []) []) last no_link b 1
        shape =
            shaped-new (block d₁ k) (e ∷ []) last no_link b 1
            (length-block d₁ k (omega (arith, length-draft linked.draft, g.whole)))

        whole : length (encode_page (e ∷ []) (trailer last no_link b 1 ++ drop 508 (block d₁ k))) ≡ 512
        whole = shaped-length (length-page_front (e ∷ []) (omega arith)) shape

-- the same two blocks by other names
pub linked-at : {s : List ℕ} {b last k j l : ℕ} {e : Entry} {c : Change} {images : List ℕ}
    → Linked s b last k e c images → last ≡ l → k ≡ j → Linked s b l j e c images
linked-at {s} {b} {e = e} {c} {images} p q w = subst₂ (λ (u v : ℕ). Linked s b u v e c images) q w p

-- ---- the two blocks, where the chain gets a page of bit n

module _ {s : List ℕ} {m : Meta} {b last : ℕ} {e : Entry} {held : ℕ} {sp : List ℕ} {n : ℕ}
    (h : AtEnd s m b last e held sp n) where
  abbrev x : Index
  x = decode s

  abbrev y : Index
  y = extended x sp b n e

  abbrev i : ℕ
  i = last_place (chain x b)

  r : Reads s m
  r = h.leaves.reads

  pub last_under : last < blocks s
  last_under =
      rw h.page (omega (arith, page-under r b h.leaves.made i (omega arith), reads-size r))

  pub last-meta : last_block (decode s) b ≢ 0
  last-meta = page-meta x (reads-laid r) b i (omega arith)

  module _ (at : chain_blocks (extended (decode s) sp b n e) b (add_page n e (chain (decode s) b))
      ≡ chain_blocks (decode s) b (add_page n e (chain (decode s) b)))
      (apart : last_block (decode s) b ≢ block_of_bit (decode s) n)
      {c : Change} {images : List ℕ}
      (p : Linked s b (last_block (decode s) b) (block_of_bit (decode s) n) e c images) where
    pub last-shown : covered (block p.draft (last_block (decode s) b))
        ≡ encode_block (extended (decode s) sp b n e) (last_block (decode s) b)
    unfolding page_with
    last-shown =
        let full = length-page_front (page_entries x b i) (page-few r b h.leaves.made i (omega arith)) in
        ap covered (p.before apart)
        ∙ shaped-covered full (shaped-next full (page-shape r b h.leaves.made i (omega arith)) (block_of_bit x n))
        ∙ sym (last-image x b (chain-there h.leaves) e n sp h.leaves.wf.laid at)

    pub new-shown : covered (block p.draft (block_of_bit (decode s) n))
        ≡ encode_block (extended (decode s) sp b n e) (block_of_bit (decode s) n)
    new-shown =
        shaped-covered (length-page_front (e ∷ []) (omega arith)) p.page
        ∙ sym (new-image x b (chain-there h.leaves) e n sp h.leaves.wf.laid at)
