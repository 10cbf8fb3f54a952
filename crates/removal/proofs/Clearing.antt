-- The bit of a freed page is set to 0.
use mathlib.Core.Path.{◌≡◌, refl, sym, ap, ◌∙◌, subst}
use mathlib.Core.Logic.{◌⊎◌, inl, inr, ⊎_elim}
use mathlib.Core.Bool.{Bool, true, false, cond}
use mathlib.Core.List.{List, ◌∷◌}
use Prim.Native.Nat.{ℕ, ◌<◌}
use native.Mathlib.Omega.{arith}
use borrow.Author.Tests.{eq-eqb, ne_eqb}
use lib.Dec.{eqb}
use lib.ListN.{length}
use Rattle.lists.specs.Block.{block, set_block}
use Rattle.lists.specs.BlockLaws.{length-block}
use Rattle.store.specs.declared.Change.{Change}
use Rattle.image.specs.Layout.{map_front}
use Rattle.store.specs.Flags.{no_link}
use Rattle.draft.specs.Draft.{Ready, Listed, Edited}
use Rattle.draft.specs.DraftLaws.{length-draft}
use Rattle.draft.specs.Bits.{put_bit}
use Rattle.draft.specs.BitLaws.{length-put_bit}
use Rattle.plan.specs.Shape.{Shaped}
use Rattle.plan.specs.ShapeLaws.{shaped-bit}
use Rattle.plan.specs.Sketch.{Sketch}
use Rattle.plan.specs.SketchLaws.{ready, ready-again, sketch-here, sketch-there, sketch-more, sketch-again}
use Rattle.std.specs.Prelude.{Option, Some, None}
use Rattle.removal.specs.Freeing.{clears}
use Rattle.removal.specs.Ending.{MapSketch, Cleared}
use Rattle.removal.specs.ShowLaws.{sketch-wider}

module _ {s : List ℕ} {c : Change} {images : List ℕ} {k : ℕ} {bit : ℕ → ℕ} {d : List ℕ}
    (a : MapSketch s c images k bit d) where
  pub map-ready : Ready s c images d k
  map-ready =
      ⊎_elim (λ g. ready g k a.inside (omega arith)) (λ w. ready-again w.0 k a.inside w.1) a.room

  -- either way
  pub map-sketch : Sketch s c images d 7 a.ks
  map-sketch = ⊎_elim (λ g. sketch-wider g 7 (omega arith)) (λ w. w.0) a.room

  pub cleared-none : (f : Option ℕ) → f ≡ None → Cleared s c images k (clears f bit) d
  cleared-none f q =
      subst (λ (f : Option ℕ). Cleared s c images k (clears f bit) d) (sym q)
      (record { d' = d; sketch = a; rest = λ j h ne. refl })

  module _ (n : ℕ) (small : n < 2048) {r : Change} {images' : List ℕ}
      (e : Edited s c images k (λ b. put_bit b n false) r images') where
    whole : length (block d k) ≡ 512
    whole =
        let g = map-sketch.draft in
        length-block d k (omega (arith, a.inside, length-draft g, g.whole))

    full : length (put_bit (block d k) n false) ≡ 512
    full = length-put_bit (block d k) n false (omega (arith, whole)) ∙ whole

    two : (i : ℕ) → cond (eqb i n) 0 (bit i) < 2
    two i = go (eqb i n)
      where
        go : (t : Bool) → cond t 0 (bit i) < 2
        go true = omega arith
        go false = a.two i

    room : Sketch s c images d 6 a.ks ⊎ (Sketch s c images d 7 a.ks × Listed c k)
        → Sketch s r images' (set_block d k (put_bit (block d k) n false)) 7 (k ∷ a.ks)
    room (inl g) = sketch-more g k a.inside _ full e.lists (e.draft d g.draft)
    room (inr w) = sketch-again w.0 k a.inside _ full e.lists (e.draft d w.0.draft) w.1

    cleared : Cleared s r images' k (clears (Some n) bit) d
    cleared =
        record {
          d' = set_block d k (put_bit (block d k) n false);
          sketch =
              record {
                ks = k ∷ a.ks;
                room = inr (room a.room, e.lists.listed);
                inside = a.inside;
                two = two;
                shape =
                    subst (λ (l : List ℕ). Shaped l (map_front (clears (Some n) bit)) no_link no_link no_link 4)
                    (sym (sketch-here map-sketch k a.inside _ full))
                    (shaped-bit bit (clears (Some n) bit) a.two n false small
                    (ap (λ (t : Bool). cond t 0 (bit n)) (eq-eqb n n refl))
                    (λ i h ne. ap (λ (t : Bool). cond t 0 (bit i)) (ne_eqb i n ne)) a.shape);
              };
          rest = sketch-there map-sketch k a.inside _ full;
        }

    pub cleared-some : (f : Option ℕ) → f ≡ Some n → Cleared s r images' k (clears f bit) d
    cleared-some f q = subst (λ (f : Option ℕ). Cleared s r images' k (clears f bit) d) (sym q) cleared
