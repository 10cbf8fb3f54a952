-- A page is unlinked and made unused, edit by edit.
use mathlib.Core.Path.{◌≡◌, refl, sym, ap, ◌∙◌, subst₂}
use mathlib.Core.Logic.{◌≢◌}
use mathlib.Core.List.{List, ◌∷◌, ◌++◌}
use Prim.Native.Nat.{ℕ, suc, ◌+◌, ◌<◌}
use native.Mathlib.Omega.{arith}
use lib.ListN.{length, drop, replicate, length-append, length-drop, length-replicate}
use lib.Seq.{sets, length-sets}
use Rattle.lists.specs.Block.{blocks, block, set_block}
use Rattle.lists.specs.BlockLaws.{length-block}
use Rattle.endian.specs.Endian.{le32}
use Rattle.store.specs.declared.Change.{Change}
use Rattle.store.specs.Store.{prev_at, next_at}
use Rattle.store.specs.Flags.{no_link}
use Rattle.draft.specs.Draft.{Ready, Edited}
use Rattle.draft.specs.DraftLaws.{length-draft}
use Rattle.plan.specs.Sketch.{Sketch}
use Rattle.plan.specs.SketchLaws.{ready, sketch-here, sketch-there, sketch-more}
use Rattle.removal.specs.ShowLaws.{sketch-wider}
use Rattle.removal.specs.Freeing.{Linkable, Linked, Freeable, Freeing}

-- ---- one block is edited, and keeps its length

module _ {s : List ℕ} {c : Change} {images d : List ℕ} {n : ℕ} {ks : List ℕ} (g : Sketch s c images d n ks) (k : ℕ)
    (inside : k < blocks s) {f : List ℕ → List ℕ} (keeps : (l : List ℕ) → length l ≡ 512 → length (f l) ≡ 512)
    {r : Change} {images' : List ℕ} (e : Edited s c images k f r images') where
  full : length (f (block d k)) ≡ 512
  full = keeps (block d k) (length-block d k (omega (arith, length-draft g.draft, g.draft.whole)))

  pub edit-sketch : Sketch s r images' (set_block d k (f (block d k))) (suc n) (k ∷ ks)
  edit-sketch = sketch-more g k inside (f (block d k)) full e.lists (e.draft d g.draft)

  pub edit-here : block (set_block d k (f (block d k))) k ≡ f (block d k)
  edit-here = sketch-here g k inside (f (block d k)) full

  pub edit-there : (j : ℕ) → j < blocks s → j ≢ k → block (set_block d k (f (block d k))) j ≡ block d j
  edit-there = sketch-there g k inside (f (block d k)) full

keeps-sets : (i : ℕ) (vs l : List ℕ) → length l ≡ 512 → length (sets l i vs) ≡ 512
keeps-sets i vs l h = length-sets l i vs ∙ h

keeps-clear : (l : List ℕ) → length l ≡ 512 → length (replicate 508 0 ++ drop 508 l) ≡ 512
keeps-clear l h =
    length-append (replicate 508 0) (drop 508 l)
    ∙ omega (arith, length-replicate {A = ℕ} 508 0, length-drop 508 l)

-- ---- the page after, if there is one

module _ {s : List ℕ} {c : Change} {images : List ℕ} {next : ℕ} {d : List ℕ} {n : ℕ}
    (a : Linkable s c images next d n) where
  pub link-ready : next ≢ no_link → Ready s c images d next
  link-ready ne = ready a.sketch next (a.inside ne) a.few

  pub linked-none : (prev : ℕ) → next ≡ no_link → Linked s c images next prev d n
  linked-none prev e =
      record {
        d' = d;
        ks = a.ks;
        sketch = sketch-wider a.sketch (n + 1) (omega arith);
        here = λ ne. absurd (ne e);
        rest = λ j h ne. refl;
      }

  pub linked-some : (prev : ℕ) {r : Change} {images' : List ℕ} → next ≢ no_link
      → Edited s c images next (λ b. sets b 492 (le32 prev)) r images' → Linked s r images' next prev d n
  linked-some prev ne e =
      let keeps = keeps-sets 492 (le32 prev) in
      let i = a.inside ne in
      record {
        d' = set_block d next (sets (block d next) 492 (le32 prev));
        ks = next ∷ a.ks;
        sketch = sketch-wider (edit-sketch a.sketch next i keeps e) (n + 1) (omega arith);
        here = λ _. edit-here a.sketch next i keeps e;
        rest = edit-there a.sketch next i keeps e;
      }

-- ---- the page before, the page after, the page itself

module _ {s : List ℕ} {c : Change} {images : List ℕ} {k : ℕ} {d : List ℕ} {n : ℕ} (a : Freeable s c images k d n)
    {prev next : ℕ} (p : prev_at (block s k) ≡ prev) (q : next_at (block s k) ≡ next) where
  prev-inside : prev < blocks s
  prev-inside = omega (arith, p, a.before)

  pub pass-ready : Ready s c images d prev
  pass-ready = ready a.sketch prev prev-inside (omega (arith, a.few))

  module _ {r₁ : Change} {images₁ : List ℕ}
      (e₁ : Edited s c images prev (λ b. sets b 496 (le32 next)) r₁ images₁) where
    pub back-ready : Linkable s r₁ images₁ next (set_block d prev (sets (block d prev) 496 (le32 next))) (suc n)
    back-ready =
        record {
          ks = prev ∷ a.ks;
          sketch = edit-sketch a.sketch prev prev-inside (keeps-sets 496 (le32 next)) e₁;
          few = omega (arith, a.few);
          inside = λ ne. omega (arith, q, a.after (λ e. ne (sym q ∙ e)));
        }

    module _ {r₂ : Change} {images₂ : List ℕ}
        (l : Linked s r₂ images₂ next prev (set_block d prev (sets (block d prev) 496 (le32 next))) (suc n)) where
      pub clear-ready : Ready s r₂ images₂ l.d' k
      clear-ready = ready l.sketch k a.inside (omega (arith, a.few))

      there : (j : ℕ) → j < blocks s → j ≢ prev
          → block (set_block d prev (sets (block d prev) 496 (le32 next))) j ≡ block d j
      there = edit-there a.sketch prev prev-inside (keeps-sets 496 (le32 next)) e₁

      pub freeing : {r : Change} {images' : List ℕ}
          → Edited s r₂ images₂ k (λ b. replicate 508 0 ++ drop 508 b) r images' → Freeing s r images' k d n
      freeing e₃ =
          let kp : k ≢ prev = λ e. a.apart.0 (p ∙ sym e) in
          let kn : k ≢ next = λ e. a.apart.1 (q ∙ sym e) in
          let np : next ≢ prev = λ e. a.apart.2 (q ∙ e ∙ sym p) in
          let rest = edit-there l.sketch k a.inside keeps-clear e₃ in
          let d₃ : List ℕ = set_block l.d' k (replicate 508 0 ++ drop 508 (block l.d' k)) in
          record {
            d' = d₃;
            ks = k ∷ l.ks;
            sketch =
                sketch-wider (edit-sketch l.sketch k a.inside keeps-clear e₃) (n + 3) (omega arith);
            here =
                edit-here l.sketch k a.inside keeps-clear e₃
                ∙ ap (λ (b : List ℕ). replicate 508 0 ++ drop 508 b)
                (l.rest k a.inside kn ∙ there k a.inside kp);
            before =
                subst₂ (λ (u v : ℕ). block d₃ u ≡ sets (block d u) 496 (le32 v)) (sym p) (sym q)
                (rest prev prev-inside (λ e. kp (sym e))
                ∙ l.rest prev prev-inside (λ e. np (sym e))
                ∙ edit-here a.sketch prev prev-inside (keeps-sets 496 (le32 next)) e₁);
            after =
                λ ne.
                let i : next < blocks s = omega (arith, q, a.after ne) in
                subst₂ (λ (u v : ℕ). block d₃ u ≡ sets (block d u) 492 (le32 v)) (sym q) (sym p)
                (rest next i (λ e. kn (sym e))
                ∙ l.here (λ e. ne (q ∙ e))
                ∙ ap (λ (b : List ℕ). sets b 492 (le32 prev)) (there next i np));
            rest =
                λ j h nk u v.
                rest j h nk ∙ l.rest j h (λ e. v (e ∙ sym q)) ∙ there j h (λ e. u (e ∙ sym p));
          }
