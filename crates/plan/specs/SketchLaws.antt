-- Edits of a sketch, one after the other.
use Rattle.std.specs.Prelude.{◌≡◌, refl, ◌≢◌, List, [], ◌∷◌, ℕ, suc, ◌<◌, length}
use Rattle.std.proofs.Common.{◌∙◌, inl, inr, arith}
use Rattle.lists.specs.Block.{blocks, block, set_block}
use Rattle.lists.specs.BlockLaws.{block_same, block-other}
use Rattle.page.specs.declared.Entry.{Entry}
use Rattle.page.specs.Entries.{encode_page}
use Rattle.page.specs.SublistLaws.{each_map}
use Rattle.store.specs.declared.Change.{Change}
use Rattle.frame.specs.Frame.{Apart}
use Rattle.draft.specs.Draft.{Draft, Listed, Ready, Lists, Edited, PageEdited}
use Rattle.draft.specs.DraftLaws.{length-draft}
use Rattle.plan.specs.Sketch.{Sketch}

-- no edit yet
pub sketch-none : {s : List ℕ} {c : Change} {images : List ℕ} → Draft s c images s → c.count ≡ 0
    → Sketch s c images s 0 []
sketch-none g e = record { draft = g; few = omega arith; listed = tt; rest = λ k h a. refl }

module _ {s : List ℕ} {c : Change} {images d : List ℕ} {n : ℕ} {ks : List ℕ} (g : Sketch s c images d n ks) where
  -- ---- block k may be edited

  pub ready : (k : ℕ) → k < blocks s → n < 8 → Ready s c images d k
  ready k h few = record { draft = g.draft; inside = h; room = inl (omega (arith, g.few)) }

  pub ready-again : (k : ℕ) → k < blocks s → Listed c k → Ready s c images d k
  ready-again k h w = record { draft = g.draft; inside = h; room = inr w }

  -- ---- an edit of block k that makes b of it

  module _ (k : ℕ) (inside : k < blocks s) (b : List ℕ) (full : length b ≡ 512) where
    pub sketch-here : block (set_block d k b) k ≡ b
    sketch-here = block_same d k b (omega (arith, length-draft g.draft, g.draft.whole)) full

    pub sketch-there : (j : ℕ) → j < blocks s → j ≢ k → block (set_block d k b) j ≡ block d j
    sketch-there j h ne =
        block-other d k b (omega (arith, length-draft g.draft, g.draft.whole)) full j
        (omega (arith, length-draft g.draft, g.draft.whole)) ne

    module _ {r : Change} {images' : List ℕ} (l : Lists c k r) (e : Draft s r images' (set_block d k b)) where
      others : (j : ℕ) → j < blocks s → Apart j (k ∷ ks) → block (set_block d k b) j ≡ block s j
      others j h a = sketch-there j h a.0 ∙ g.rest j h a.1

      -- one block more, or one that is listed
      pub sketch-more : Sketch s r images' (set_block d k b) (suc n) (k ∷ ks)
      sketch-more =
          record {
            draft = e;
            few = omega (arith, l.few, g.few);
            listed = (l.listed, each_map (Listed c) (Listed r) l.keeps ks g.listed);
            rest = others;
          }

      pub sketch-again : Listed c k → Sketch s r images' (set_block d k b) n (k ∷ ks)
      sketch-again w =
          record {
            draft = e;
            few = omega (arith, l.same w, g.few);
            listed = (l.listed, each_map (Listed c) (Listed r) l.keeps ks g.listed);
            rest = others;
          }

  -- what the two kinds of edits make of the draft

  pub edited : {k : ℕ} {f : List ℕ → List ℕ} {r : Change} {images' : List ℕ} → Edited s c images k f r images'
      → Draft s r images' (set_block d k (f (block d k)))
  edited e = e.draft d g.draft

  pub page-edited : {k : ℕ} {f : List Entry → List Entry} {r : Change} {images' : List ℕ}
      → PageEdited s c images k f r images' → (es : List Entry) (tail : List ℕ) → block d k ≡ encode_page es tail
      → Draft s r images' (set_block d k (encode_page (f es) tail))
  page-edited e es tail q = e.draft d g.draft es tail q
