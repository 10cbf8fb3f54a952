-- The blocks of a store that is read as an index: their bodies, and their shapes.
use Rattle.std.specs.Prelude.{◌≡◌, List, [], ◌∷◌, ℕ, zero, suc, ◌≤◌, ◌<◌, length, get_or}
use Rattle.std.proofs.Common.{sym, ap, ◌∙◌, subst, arith}
use Rattle.lists.specs.Lists.{Each}
use Rattle.lists.specs.Bytes.{Bytes}
use Rattle.lists.specs.Block.{block}
use Rattle.lists.specs.BlockLaws.{length-block}
use Rattle.address.specs.Address.{last_split}
use Rattle.page.specs.Entries.{encode_page}
use Rattle.store.specs.Store.{covered, checked}
use Rattle.store.specs.Finish.{Sealed}
use Rattle.store.proofs.FinishLaws.{sealed-checked}
use Rattle.model.specs.Index.{Page, Chain, Index, chain}
use Rattle.model.specs.WellFormed.{MoreOk, ChainOk}
use Rattle.image.specs.declared.Meta.{Meta}
use Rattle.image.specs.Layout.{meta_front, meta_of, map_front, map_bit, flags_of, encode_block}
use Rattle.store.specs.Flags.{no_link}
use Rattle.image.specs.Decode.{decode}
use Rattle.image.specs.BitmapLaws.{length-map_front}
use Rattle.image.specs.PageOkLaws.{length-page_front}
use Rattle.image.proofs.BoundLaws.{length-meta}
use Rattle.image.proofs.EncodeLaws.{bit-inside, covered-encode, checked-encode, Bytes-encode}
use Rattle.frame.specs.Frame.{map_block, chain_blocks, page_block, entries_after, place_entries, page_entries, prev_in}
use Rattle.frame.specs.Frame.{flags_for, page_with}
use Rattle.frame.specs.ImagesLaws.{top_one, page-inside, page-image, meta-image, map-image}
use Rattle.view.specs.Reads.{Reads}
use Rattle.view.specs.ReadsLaws.{reads-laid, reads-size, reads-max, reads_sized}
use Rattle.plan.specs.Shape.{Shaped}
use Rattle.plan.specs.ShapeLaws.{shaped-paged}

-- no page of a chain has more than 40 entries
pub page-full : (c : Chain) → ChainOk c → (i : ℕ) → length (place_entries c i) ≤ 40
page-full c o zero = o.first.full
page-full c o (suc i) = go c.more i o.more
  where
    go : (gs : List Page) (i : ℕ) → Each MoreOk gs → length (get_or (entries_after gs) i []) ≤ 40
    go [] i h = omega arith
    go (g ∷ gs) zero h = h.0.page.full
    go (g ∷ gs) (suc i) h = go gs i h.1

module _ {s : List ℕ} {m : Meta} (r : Reads s m) where
  abbrev x : Index
  x = decode s

  -- ---- bodies

  pub block-is : (k : ℕ) → k < (decode s).size → covered (block s k) ≡ encode_block (decode s) k
  block-is k h = ap (λ (t : List ℕ). covered (block t k)) r.bytes ∙ covered-encode x (reads-laid r) k h

  pub block-full : (k : ℕ) → k < (decode s).size → length (block s k) ≡ 512
  block-full k h = length-block s k (omega (arith, h, reads-size r, (reads_sized r).whole))

  pub store-sealed : Sealed s
  store-sealed =
      let l = reads-laid r in
      sealed-checked s (subst Bytes (sym r.bytes) (Bytes-encode x l)) (reads_sized r).whole
      (λ k h. ap (λ (t : List ℕ). checked t k) r.bytes ∙ checked-encode x l k (omega (arith, reads-size r)))

  -- ---- where they stand

  pub map-inside : map_block (decode s) < (decode s).size
  map-inside = bit-inside x (reads-laid r) 0 (top_one x (reads-laid r))

  -- ---- shapes

  pub meta-shape : 0 < (decode s).size → Shaped (block s 0) (meta_front (meta_of (decode s))) no_link no_link no_link 8
  meta-shape h =
      let l = reads-laid r in
      shaped-paged (meta_front (meta_of x)) no_link no_link no_link 8 (length-meta x l) (block-full 0 h)
      (block-is 0 h ∙ meta-image x l)

  pub map-shape : Shaped (block s (map_block (decode s))) (map_front (map_bit (decode s))) no_link no_link no_link 4
  map-shape =
      let l = reads-laid r in
      shaped-paged (map_front (map_bit x)) no_link no_link no_link 4 (length-map_front (map_bit x))
      (block-full (map_block x) map-inside) (block-is (map_block x) map-inside ∙ map-image x l)

  -- the page at place i of bucket b's chain
  module _ (b : ℕ) (made : b ≤ m.max) (i : ℕ) (inside : i ≤ length (chain (decode s) b).more) where
    under : b ≤ (decode s).max_bucket
    under = omega (arith, reads-max r)

    pub page-under : page_block (decode s) b i < (decode s).size
    page-under = page-inside x (reads-laid r) b i under inside

    pub page-few : length (page_entries (decode s) b i) ≤ 40
    page-few = page-full (chain x b) ((reads-laid r).pages b) i

    pub page-shape : Shaped (block s (page_block (decode s) b i)) (encode_page (page_entries (decode s) b i) [])
        (prev_in (last_split (decode s).max_bucket b) (chain_blocks (decode s) b (chain (decode s) b)) i)
        (page_block (decode s) b (suc i)) b (flags_for (flags_of (decode s) b) i)
    unfolding page_with
    page-shape =
        let l = reads-laid r in
        shaped-paged (encode_page (page_entries x b i) []) _ (page_block x b (suc i)) b _
        (length-page_front (page_entries x b i) page-few) (block-full (page_block x b i) page-under)
        (block-is (page_block x b i) page-under ∙ page-image x l b i under inside)
