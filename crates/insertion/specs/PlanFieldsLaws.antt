-- A sketch whose last edit writes the meta block's fields, trimmed: the plan of the index that the fields are of.
use Rattle.std.specs.Prelude.{◌≡◌, List, ◌∷◌, ◌++◌, ℕ, ◌<◌, length, drop}
use Rattle.std.proofs.Common.{sym, ◌∙◌, arith}
use Rattle.std.proofs.Math.Path.{ap}
use Rattle.std.proofs.Math.Decide.{ℕ_discrete}
use Rattle.lists.specs.Lists.{Each}
use Rattle.lists.specs.Block.{blocks, block, set_block}
use Rattle.page.specs.SublistLaws.{each_map}
use Rattle.store.specs.declared.Change.{Change}
use Rattle.store.specs.Store.{covered}
use Rattle.model.specs.Index.{Index}
use Rattle.model.specs.WellFormed.{Laid}
use Rattle.model.proofs.FrameLaws.{SameStore}
use Rattle.model.proofs.BoundLaws.{laid-size}
use Rattle.image.specs.declared.Meta.{Meta}
use Rattle.image.specs.Layout.{paged, meta_front, meta_of, encode_block}
use Rattle.store.specs.Flags.{no_link}
use Rattle.image.specs.Decode.{decode}
use Rattle.image.proofs.BoundLaws.{length-meta}
use Rattle.frame.specs.Frame.{Apart}
use Rattle.frame.specs.ImagesLaws.{meta-image}
use Rattle.view.specs.Reads.{Reads}
use Rattle.view.specs.ReadsLaws.{reads-laid, reads-size}
use Rattle.draft.specs.Draft.{Draft, Ready, Edited}
use Rattle.draft.specs.Trim.{Trimmed}
use Rattle.plan.specs.Plan.{Plans}
use Rattle.plan.specs.Shape.{Shaped}
use Rattle.plan.specs.ShapeLaws.{shaped-covered, shaped-front, shaped-length}
use Rattle.plan.specs.Sketch.{Sketch}
use Rattle.plan.specs.SketchLaws.{ready, sketch-here, sketch-there, sketch-more}
use Rattle.plan.specs.StoreLaws.{meta-shape}
use Rattle.plan.specs.PlanLaws.{plans-of}

module _ {s : List ℕ} {m : Meta} (r : Reads s m) {c : Change} {images d : List ℕ} {n : ℕ} {ks : List ℕ}
    (g : Sketch s c images d n ks) where
  pub meta-under : 0 < blocks s
  meta-under = omega (arith, reads-size r, laid-size (decode s) (reads-laid r))

  pub fields-ready : n < 8 → Ready s c images d 0
  fields-ready few = ready g 0 meta-under few

  module _ (y : Index) (laid : Laid y) (kept : SameStore (decode s) y) (js : List ℕ)
      (frame : (k : ℕ) → Apart k (0 ∷ js) → encode_block y k ≡ encode_block (decode s) k)
      (edits : (k : ℕ) → Apart k js → Apart k ks) (first : Apart 0 ks)
      (shown : Each (λ (k : ℕ). covered (block d k) ≡ encode_block y k) js) where
    module _ (m' : Meta) (fields : m' ≡ meta_of y) where
      written : List ℕ
      written = meta_front m' ++ drop 492 (block d 0)

      full : length (meta_front m') ≡ 492
      full = ap (λ (f : Meta). length (meta_front f)) fields ∙ length-meta y laid

      shape : Shaped written (meta_front m') no_link no_link no_link 8
      unfolding written
      shape =
          rw (g.rest 0 meta-under first)
          (shaped-front (length-meta (decode s) (reads-laid r))
          (meta-shape r (omega (arith, laid-size (decode s) (reads-laid r)))) (meta_front m'))

      whole : length written ≡ 512
      whole = shaped-length full shape

      meta-shown : covered written ≡ encode_block y 0
      meta-shown =
          shaped-covered full shape
          ∙ ap (λ (f : Meta). paged (meta_front f) no_link no_link no_link 8) fields
          ∙ sym (meta-image y laid)

      pub plans-fields : {c₁ : Change} {images₁ : List ℕ} {c₂ : Change} {images₂ : List ℕ}
          → Edited s c images 0 (λ b. meta_front m' ++ drop 492 b) c₁ images₁
          → ((d : List ℕ) → Draft s c₁ images₁ d → Trimmed s d c₂ images₂)
          → Plans s c₂ images₂ y
      unfolding written
      plans-fields e t =
          let h = e.draft d g.draft in
          let here = sketch-here g 0 meta-under written whole in
          plans-of r (sketch-more g 0 meta-under written whole e.lists h) y laid kept (0 ∷ js) frame
          (λ k a. (a.0, edits k a.1)) (
            λ u. ap covered here ∙ meta-shown,
            each_map (λ (k : ℕ). covered (block d k) ≡ encode_block y k)
                (λ (k : ℕ). k < y.size → covered (block (set_block d 0 written) k) ≡ encode_block y k)
                (λ k q u. go k q u (ℕ_discrete k 0)) js shown,
          )
          (t (set_block d 0 written) h)
        where
          go : (k : ℕ) → covered (block d k) ≡ encode_block y k → k < y.size → Dec (k ≡ 0)
              → covered (block (set_block d 0 written) k) ≡ encode_block y k
          go k q u (yes z) = rw z (ap covered (sketch-here g 0 meta-under written whole) ∙ meta-shown)
          go k q u (no ne) =
              ap covered (sketch-there g 0 meta-under written whole k (omega (arith, kept.size, reads-size r)) ne) ∙ q
