-- From a sketch whose bodies are an index's to the plan that makes that index's store.
use Rattle.std.specs.Prelude.{◌≡◌, List, ℕ, ◌*◌, ◌<◌}
use Rattle.std.proofs.Math.Path.{sym, ap}
use Rattle.std.proofs.Common.{◌∙◌, ⊎_elim, arith}
use Rattle.std.proofs.Math.ListN.{length}
use Rattle.lists.specs.Lists.{Each}
use Rattle.lists.specs.Block.{blocks, block}
use Rattle.store.specs.declared.Change.{Change}
use Rattle.store.specs.Store.{covered, number_at}
use Rattle.store.specs.Change.{Fits}
use Rattle.model.specs.Index.{Index}
use Rattle.model.specs.WellFormed.{Laid}
use Rattle.model.proofs.FrameLaws.{SameStore}
use Rattle.image.specs.declared.Meta.{Meta}
use Rattle.image.specs.Layout.{encode_block, encode}
use Rattle.image.specs.Decode.{decode}
use Rattle.frame.specs.Frame.{Apart}
use Rattle.frame.specs.CommitLaws.{in-or-apart}
use Rattle.image.proofs.EncodeLaws.{covered-encode}
use Rattle.image.specs.NumberLaws.{number-decode}
use Rattle.view.specs.Reads.{Reads}
use Rattle.view.specs.ReadsLaws.{reads-size, reads_sized}
use Rattle.draft.specs.Draft.{Listed}
use Rattle.draft.specs.DraftLaws.{length-draft}
use Rattle.draft.specs.FinishLaws.{resealed-encode}
use Rattle.draft.specs.Trim.{Trimmed}
use Rattle.draft.specs.TrimLaws.{finished-trimmed}
use Rattle.plan.specs.Plan.{Plans}
use Rattle.plan.specs.Sketch.{Sketch}
use Rattle.plan.specs.StoreLaws.{block-is, store-sealed}

-- a change of no block fits
pub fits-none : (s : List ℕ) (c : Change) → c.count ≡ 0 → Fits s c.numbers c.count
fits-none s c e =
    record {
      few = omega arith;
      inside = λ j h. absurd (omega arith);
      ascending = λ i j l h. absurd (omega arith);
    }

module _ {s : List ℕ} {m : Meta} (r : Reads s m) {c : Change} {images d : List ℕ} {n : ℕ} {ks : List ℕ}
    (g : Sketch s c images d n ks) (y : Index) (laid : Laid y) (kept : SameStore (decode s) y) (js : List ℕ)
    (frame : (k : ℕ) → Apart k js → encode_block y k ≡ encode_block (decode s) k)
    (edits : (k : ℕ) → Apart k js → Apart k ks)
    (shown : Each (λ (k : ℕ). k < y.size → covered (block d k) ≡ encode_block y k) js) where
  same : length d ≡ length s
  same = length-draft g.draft

  -- the body of every block of the draft is the index's
  all_shown : (k : ℕ) → k < y.size → covered (block d k) ≡ encode_block y k
  all_shown k h =
      ⊎_elim (λ q. q h) rest (in-or-apart (λ (k : ℕ). k < y.size → covered (block d k) ≡ encode_block y k) k js shown)
    where
      rest : Apart k js → covered (block d k) ≡ encode_block y k
      rest a =
          let u : k < blocks s = omega (arith, h, kept.size, reads-size r) in
          ap covered (g.rest k u (edits k a)) ∙ block-is r k (omega (arith, h, kept.size)) ∙ sym (frame k a)

  -- the plan, where `js` are the blocks that the operation may alter
  pub plans-of : {c' : Change} {images' : List ℕ} → Trimmed s d c' images' → Plans s c' images' y
  unfolding blocks
  plans-of {c'} t =
      let full : length d ≡ 512 * y.size =
      same ∙ (reads_sized r).whole ∙ ap (λ (k : ℕ). 512 * k) (reads-size r ∙ sym kept.size) in
      record {
        fits = t.draft.fits;
        makes =
            finished-trimmed t same (store-sealed r)
            ∙ resealed-encode (number_at s) d y (number-decode s ∙ sym kept.number) (omega arith) all_shown;
        alters = λ k w e. t.alters k w (alike k w e);
      }
    where
      alike : (k : ℕ) → Listed c' k → block s k ≡ block (encode y) k → covered (block s k) ≡ covered (block d k)
      alike k w e =
          let inside = t.draft.fits.inside w.0 w.1 in
          let u : k < y.size = omega (arith, inside, w.2, (reads_sized r).whole, reads-size r, kept.size) in
          ap covered e ∙ covered-encode y laid k u ∙ sym (all_shown k u)
