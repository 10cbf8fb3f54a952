-- The blocks of a draft, and a draft after one image is replaced.
use Rattle.std.specs.Prelude.{◌≡◌, ◌≢◌, List, ℕ, ◌+◌, ◌*◌, ◌≤◌, ◌<◌, length, get_or}
use Rattle.std.proofs.Common.{sym, ap, ◌∙◌, arith}
use Rattle.std.proofs.Math.Decide.{ℕ_discrete, dec_lt}
use Rattle.lists.specs.Block.{blocks, block, set_block}
use Rattle.lists.specs.BlockLaws.{length-set_block, block_same, block-other}
use Rattle.store.specs.declared.Change.{Change}
use Rattle.store.specs.Change.{Fits}
use Rattle.store.proofs.ChangeLaws.{length-commits, block-commits, block-commits-rest, commits-ext}
use Rattle.draft.specs.Draft.{Draft, Listed, Lists}

-- different places have different numbers
pub numbers_apart : {s numbers : List ℕ} {n : ℕ} → Fits s numbers n → (i j : ℕ) → i < n → j < n → i ≢ j
    → get_or numbers i 0 ≢ get_or numbers j 0
numbers_apart f i j hi hj ne e = go (dec_lt i j)
  where
    go : Dec (i < j) → ⊥
    go (yes l) = omega (arith, f.ascending i j l hj)
    go (no l) = omega (arith, f.ascending j i (omega arith) hi)

-- block k once more: nothing is added
pub lists-again : {c : Change} {k : ℕ} {r r' : Change} → Lists c k r → Lists r k r' → Lists c k r'
lists-again {r = r} {r'} p q =
    let e : r'.count ≡ r.count = q.same p.listed in
    record {
      listed = q.listed;
      keeps = λ j w. q.keeps j (p.keeps j w);
      few = omega (arith, p.few);
      same = λ w. e ∙ p.same w;
    }

module _ {s : List ℕ} {c : Change} {images d : List ℕ} (g : Draft s c images d) where
  abbrev number : ℕ → ℕ
  number j = get_or c.numbers j 0

  pub length-draft : length d ≡ length s
  length-draft = ap length g.makes ∙ length-commits s c.numbers images c.count g.fits g.eight

  -- a listed block is its image
  pub block-image : (j : ℕ) → j < c.count → block d (get_or c.numbers j 0) ≡ block images j
  block-image j h =
      ap (λ (x : List ℕ). block x (number j)) g.makes
      ∙ block-commits s c.numbers images c.count g.fits g.eight j h

  -- any other is the store's
  pub block-rest : (k : ℕ) → k < blocks s → (Listed c k → ⊥) → block d k ≡ block s k
  block-rest k h free =
      ap (λ (x : List ℕ). block x k) g.makes
      ∙ block-commits-rest s c.numbers images c.count g.fits g.eight k (omega (arith, g.whole))
      (λ j lt e. free (j, lt, e))

  -- an image is replaced, and with it its block
  module _ (j : ℕ) (h : j < c.count) (b : List ℕ) (full : length b ≡ 512) where
    here : 512 * number j + 512 ≤ length d
    here = omega (arith, length-draft, g.fits.inside j h)

    there : 512 * j + 512 ≤ length images
    there = omega (arith, g.eight, g.fits.few)

    named : (i : ℕ) → i < c.count → Dec (i ≡ j)
        → block (set_block d (number j) b) (number i) ≡ block (set_block images j b) i
    named i l (yes e) =
        ap (λ (n : ℕ). block (set_block d (number j) b) (number n)) e
        ∙ block_same d (number j) b here full
        ∙ sym (block_same images j b there full)
        ∙ ap (block (set_block images j b)) (sym e)
    named i l (no ne) =
        block-other d (number j) b here full (number i) (omega (arith, length-draft, g.fits.inside i l))
        (numbers_apart g.fits i j l h ne)
        ∙ block-image i l
        ∙ sym (block-other images j b there full i (omega (arith, g.eight, g.fits.few)) ne)

    rest : (k : ℕ) → k < blocks s → ((i : ℕ) → i < c.count → number i ≢ k)
        → block (set_block d (number j) b) k ≡ block s k
    rest k l free =
        block-other d (number j) b here full k (omega (arith, length-draft, g.whole)) (λ e. free j h (sym e))
        ∙ block-rest k l (λ w. free w.0 w.1 w.2)

    pub draft-put : Draft s c (set_block images j b) (set_block d (get_or c.numbers j 0) b)
    draft-put =
        let eight : length (set_block images j b) ≡ 4096 = length-set_block images j b there full ∙ g.eight in
        record {
          whole = g.whole;
          fits = g.fits;
          eight = eight;
          makes =
              commits-ext s c.numbers (set_block images j b) c.count g.fits eight (blocks s)
              (set_block d (number j) b) g.whole (length-set_block d (number j) b here full ∙ length-draft ∙ g.whole)
              (λ i l. named i l (ℕ_discrete i j)) rest;
        }
