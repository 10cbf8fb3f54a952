-- The end of a cut: the bitmap, the meta block, and the plan.
use mathlib.Core.Path.{◌≡◌, sym, ap, ◌∙◌, subst, fun_ext}
use mathlib.Core.Logic.{◌≢◌, inl}
use mathlib.Core.Bool.{Bool, true, false, not}
use mathlib.Core.List.{List, ◌∷◌, ◌++◌}
use Prim.Native.Nat.{ℕ, ◌<◌}
use native.Mathlib.Decide.{ℕ_discrete}
use native.Mathlib.Omega.{arith}
use lib.ListN.{length, drop}
use Rattle.lists.specs.Lists.{b2n}
use Rattle.lists.specs.TestLaws.{each_left, each_right, each_all}
use Rattle.lists.specs.Block.{blocks, block, set_block}
use Rattle.address.specs.Address.{point}
use Rattle.address.specs.BlockLaws.{point-pos, bit-pos}
use Rattle.store.specs.declared.Change.{Change}
use Rattle.store.specs.Store.{covered}
use Rattle.model.specs.Index.{Index}
use Rattle.image.specs.declared.Meta.{Meta}
use Rattle.image.specs.Layout.{paged, meta_front, meta_of, map_front, map_bit, encode_block}
use Rattle.store.specs.Flags.{no_link}
use Rattle.model.specs.Pages.{is_free}
use Rattle.image.specs.Decode.{decode}
use Rattle.image.specs.BitmapLaws.{length-map_front}
use Rattle.image.proofs.BoundLaws.{length-meta}
use Rattle.frame.specs.Frame.{map_block}
use Rattle.frame.specs.ImagesLaws.{meta-image, map-image}
use Rattle.view.specs.ReadsLaws.{reads-laid, reads-size}
use Rattle.draft.specs.Draft.{Draft, Ready, Edited}
use Rattle.draft.specs.Trim.{Trimmed}
use Rattle.plan.specs.Fields.{fields_after}
use Rattle.plan.specs.Plan.{Plans}
use Rattle.plan.specs.Shape.{Shaped}
use Rattle.plan.specs.ShapeLaws.{shaped-length, shaped-covered, shaped-front}
use Rattle.plan.specs.Sketch.{Sketch}
use Rattle.plan.specs.SketchLaws.{ready, sketch-here, sketch-there, sketch-more}
use Rattle.plan.specs.StoreLaws.{map-inside, meta-shape, map-shape}
use Rattle.plan.specs.PlanLaws.{plans-of}
use Rattle.std.specs.Prelude.{Option}
use Rattle.removal.specs.Freeing.{clears, lowers}
use Rattle.removal.specs.Ending.{MapSketch, Cleared, Ending}
use Rattle.removal.proofs.Clearing.{map-sketch}

module _ {s : List ℕ} {m : Meta} {c : Change} {images : List ℕ} {held : ℕ} {f g : Option ℕ} {y : Index}
    (e : Ending s m c images held f g y) {k : ℕ} (at : k ≡ map_block (decode s)) where
  abbrev x : Index
  x = decode s

  abbrev d : List ℕ
  d = e.sketches.d

  bit-two : (i : ℕ) → map_bit (decode s) i < 2
  bit-two i = go (is_free x i)
    where
      go : (t : Bool) → b2n (not t) < 2
      go true = omega arith
      go false = omega arith

  map-low : k < blocks s
  map-low = omega (arith, at, map-inside e.reads, reads-size e.reads)

  zero-low : 0 < blocks s
  zero-low = omega (arith, map-low)

  no-meta : k ≢ 0
  no-meta q =
      let l = reads-laid e.reads in
      let s = point x.max_bucket in
      omega (arith, at, q, bit-pos x.spares s x.size l.spares (point-pos x.max_bucket) 0)

  -- ---- the bitmap

  pub map-start : MapSketch s c images k (map_bit (decode s)) e.sketches.d
  map-start =
      record {
        ks = e.sketches.ks;
        room = inl e.sketches.sketch;
        inside = map-low;
        two = bit-two;
        shape =
            subst (λ (l : List ℕ). Shaped l (map_front (map_bit x)) no_link no_link no_link 4)
            (sym (subst (λ (j : ℕ). block d j ≡ block s (map_block x)) (e.map ∙ sym at)
            (e.sketches.shows.map ∙ ap (block s) e.map))) (map-shape e.reads);
      }

  module _ {c₁ : Change} {images₁ : List ℕ}
      (a : Cleared s c₁ images₁ k (clears f (map_bit (decode s))) e.sketches.d)
      {c₂ : Change} {images₂ : List ℕ}
      (b : Cleared s c₂ images₂ k (clears g (clears f (map_bit (decode s)))) a.d') where
    there : (j : ℕ) → j < blocks s → j ≢ k → block b.d' j ≡ block e.sketches.d j
    there j h ne = b.rest j h ne ∙ a.rest j h ne

    pub meta-ready : Ready s c₂ images₂ b.d' 0
    meta-ready = ready (map-sketch b.sketch) 0 zero-low (omega arith)

    -- ---- the meta block

    module _ (fields : Meta) (are : fields ≡ fields_after m held (lowers g (lowers f m.free)))
        {c₃ : Change} {images₃ : List ℕ}
        (w : Edited s c₂ images₂ 0 (λ l. meta_front fields ++ drop 492 l) c₃ images₃) where
      new : List ℕ
      new = meta_front fields ++ drop 492 (block b.d' 0)

      fields-are : fields ≡ meta_of y
      fields-are = are ∙ sym e.meta

      front : length (meta_front fields) ≡ 492
      front = ap (λ (n : Meta). length (meta_front n)) fields-are ∙ length-meta y e.laid

      shape : Shaped new (meta_front fields) no_link no_link no_link 8
      unfolding new
      shape =
          let r = e.reads in
          let z : block s 0 ≡ block b.d' 0 =
          sym (there 0 zero-low (λ q. no-meta (sym q)) ∙ e.sketches.shows.meta) in
          shaped-front (length-meta x (reads-laid r))
          (subst (λ (l : List ℕ). Shaped l (meta_front (meta_of x)) no_link no_link no_link 8) z
          (meta-shape r (omega (arith, map-inside r)))) (meta_front fields)

      full : length new ≡ 512
      full = shaped-length front shape

      drafted : Draft s c₃ images₃ (set_block b.d' 0 new)
      unfolding new
      drafted = w.draft b.d' (map-sketch b.sketch).draft

      pub last : List ℕ
      last = set_block b.d' 0 new

      pub last-draft : Draft s c₃ images₃ last
      unfolding last
      last-draft = drafted

      sketched : Sketch s c₃ images₃ (set_block b.d' 0 new) 8 (0 ∷ b.sketch.ks)
      sketched = sketch-more (map-sketch b.sketch) 0 zero-low new full w.lists drafted

      -- ---- every block

      shown : (j : ℕ) → j < y.size → covered (block (set_block b.d' 0 new) j) ≡ encode_block y j
      shown j h = go (ℕ_discrete j 0) (ℕ_discrete j k)
        where
          i : j < blocks s
          i = omega (arith, h, e.same.size, reads-size e.reads)

          go : Dec (j ≡ 0) → Dec (j ≡ k) → covered (block (set_block b.d' 0 new) j) ≡ encode_block y j
          go (yes q) _ =
              ap (λ (i : ℕ). covered (block (set_block b.d' 0 new) i)) q
              ∙ ap covered (sketch-here (map-sketch b.sketch) 0 zero-low new full)
              ∙ shaped-covered front shape
              ∙ ap (λ (n : Meta). paged (meta_front n) no_link no_link no_link 8) fields-are
              ∙ sym (meta-image y e.laid)
              ∙ ap (encode_block y) (sym q)
          go (no q) (yes u) =
              ap covered (sketch-there (map-sketch b.sketch) 0 zero-low new full j i q ∙ ap (block b.d') u)
              ∙ shaped-covered (length-map_front _) b.sketch.shape
              ∙ ap (λ (bit : ℕ → ℕ). paged (map_front bit) no_link no_link no_link 4) (sym (fun_ext e.bits))
              ∙ sym (map-image y e.laid)
              ∙ ap (encode_block y) (e.map ∙ sym at ∙ sym u)
          go (no q) (no u) =
              ap covered (sketch-there (map-sketch b.sketch) 0 zero-low new full j i q ∙ there j i u)
              ∙ e.sketches.shows.pages j h q (λ v. u (v ∙ e.map ∙ sym at))

      pub planned : {r : Change} {images' : List ℕ} → Trimmed s last r images' → Plans s r images' y
      unfolding last
      planned t =
          let js = e.js ++ (0 ∷ b.sketch.ks) in
          plans-of e.reads sketched y e.laid e.same js
          (λ j o. e.frame j (each_left (λ (i : ℕ). j ≢ i) e.js _ o))
          (λ j o. each_right (λ (i : ℕ). j ≢ i) e.js _ o)
          (each_all (λ (j : ℕ). j < y.size → covered (block (set_block b.d' 0 new) j) ≡ encode_block y j) 0 js
          (λ i h. shown _)) t
