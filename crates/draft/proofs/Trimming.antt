-- The images of a change are kept or left out, one after the other.
use mathlib.Core.Path.{◌≡◌, refl, sym, ap, ap₂, ◌∙◌, subst}
use mathlib.Core.Logic.{◌≢◌, ◌⊎◌, inl, inr, ⊎_elim}
use mathlib.Core.Bool.{Bool, true, false, cond}
use mathlib.Core.List.{List}
use Prim.Native.Nat.{ℕ, ◌+◌, ◌*◌, ◌≤◌, ◌<◌}
use native.Mathlib.Decide.{ℕ_discrete}
use native.Mathlib.Omega.{arith}
use borrow.Author.Count.{below_more}
use lib.ListN.{length, get_or}
use Rattle.lists.specs.Block.{blocks, block, set_block}
use Rattle.lists.specs.BlockLaws.{length-block, length-set_block, block_same, block-other}
use Rattle.store.specs.declared.Change.{Change}
use Rattle.store.specs.Store.{covered}
use Rattle.store.specs.Change.{Fits}
use Rattle.store.proofs.ChangeLaws.{commits-ext, find-number}
use Rattle.draft.specs.Draft.{Draft, Listed}
use Rattle.draft.specs.DraftLaws.{length-draft, block-image, block-rest}
use Rattle.draft.specs.Trim.{alike, Kept, trimmed, Trimmed}
use Rattle.draft.specs.TrimLaws.{alike-ne, length-trimmed, block-trimmed}

module _ (s numbers images : List ℕ) where
  -- whether image p stands in the store
  abbrev pub stands : ℕ → Bool
  stands p = alike (covered (block s (get_or numbers p 0))) (covered (block images p))

  -- place j of the new change is a place of the old one before i
  pub record From (i : ℕ) (r : Change) (images' : List ℕ) (j : ℕ) : Type 0 where
    pub place : ℕ
    pub early : place < i
    pub same : get_or r.numbers j 0 ≡ get_or numbers place 0
    pub image : block images' j ≡ block images place
    pub alters : stands place ≡ false

  -- of the first i images those that stand in the store are left out
  pub record Sorted (n i : ℕ) (r : Change) (images' : List ℕ) : Type 0 where
    pub few : r.count ≤ i
    pub kept : (j : ℕ) → j < r.count → From i r images' j
    pub ascending : (a b : ℕ) → a < b → b < r.count → get_or r.numbers a 0 < get_or r.numbers b 0
    pub all : (p : ℕ) → p < i → Listed r (get_or numbers p 0) ⊎ (stands p ≡ true)
    pub rest : (j : ℕ) → i ≤ j → j < n → block images' j ≡ block images j
    pub eight : length images' ≡ 4096

module _ {s numbers : List ℕ} {n : ℕ} (images : List ℕ) (fits : Fits s numbers n) where
  abbrev number : ℕ → ℕ
  number j = get_or numbers j 0

  pub sort-start : length images ≡ 4096 → (r : Change) → r.count ≡ 0 → Sorted s numbers images n 0 r images
  sort-start eight r e =
      record {
        few = omega arith;
        kept = λ j h. absurd (omega arith);
        ascending = λ a b l h. absurd (omega arith);
        all = λ p h. absurd (omega arith);
        rest = λ j l h. refl;
        eight = eight;
      }

  module _ {i : ℕ} {r : Change} {images' : List ℕ} (small : i < n) (o : Sorted s numbers images n i r images') where
    later : (j : ℕ) → From s numbers images i r images' j → From s numbers images (i + 1) r images' j
    later j f =
        record {
          place = f.place;
          early = omega (arith, f.early);
          same = f.same;
          image = f.image;
          alters = f.alters;
        }

    -- image i is left out
    pub sort-drop : stands s numbers images i ≡ true → Sorted s numbers images n (i + 1) r images'
    sort-drop e =
        record {
          few = omega (arith, o.few);
          kept = λ j h. later j (o.kept j h);
          ascending = o.ascending;
          all = below_more (λ p. Listed r (number p) ⊎ (stands s numbers images p ≡ true)) i o.all (inr e);
          rest = λ j l h. o.rest j (omega arith) h;
          eight = o.eight;
        }

    -- image i is kept
    module _ {r' : Change} (images'' : List ℕ) (e : stands s numbers images i ≡ false)
        (k : Kept r (get_or numbers i 0) r') (put : images'' ≡ set_block images' r.count (block images' i)) where
      top : ℕ
      top = r.count

      here : 512 * top + 512 ≤ length images'
      unfolding top
      here = omega (arith, o.few, o.eight, fits.few)

      full : length (block images' i) ≡ 512
      full = length-block images' i (omega (arith, o.eight, fits.few))

      others : (j : ℕ) → j < n → j ≢ top → block images'' j ≡ block images' j
      unfolding top
      others j h ne =
          ap (λ (x : List ℕ). block x j) put
          ∙ block-other images' top (block images' i) here full j (omega (arith, o.eight, fits.few)) ne

      kept' : (j : ℕ) → j < r'.count → From s numbers images (i + 1) r' images'' j
      unfolding top
      kept' j h = go (ℕ_discrete j top)
        where
          go : Dec (j ≡ top) → From s numbers images (i + 1) r' images'' j
          go (yes q) =
              record {
                place = i;
                early = omega arith;
                same = ap (λ (m : ℕ). get_or r'.numbers m 0) q ∙ k.last;
                image =
                    ap₂ block put q
                    ∙ block_same images' top (block images' i) here full
                    ∙ o.rest i (omega arith) small;
                alters = e;
              }
          go (no ne) =
              let lt : j < r.count = omega (arith, k.more) in
              let f = o.kept j lt in
              record {
                place = f.place;
                early = omega (arith, f.early);
                same = k.before j lt ∙ f.same;
                image = others j (omega (arith, o.few)) ne ∙ f.image;
                alters = f.alters;
              }

      rising : (a b : ℕ) → a < b → b < r'.count → get_or r'.numbers a 0 < get_or r'.numbers b 0
      unfolding top
      rising a b l h = go (ℕ_discrete b top)
        where
          before : a < r.count
          before = omega (arith, k.more)

          go : Dec (b ≡ top) → get_or r'.numbers a 0 < get_or r'.numbers b 0
          go (yes q) =
              let f = o.kept a before in
              let last : get_or r'.numbers b 0 ≡ number i = ap (λ (m : ℕ). get_or r'.numbers m 0) q ∙ k.last in
              omega (arith, last, k.before a before, f.same, fits.ascending f.place i f.early small)
          go (no ne) =
              let lt : b < r.count = omega (arith, k.more) in
              omega (arith, k.before a before, k.before b lt, o.ascending a b l lt)

      listed : (m : ℕ) → Listed r m → Listed r' m
      listed m (j, h, q) = (j, omega (arith, k.more), k.before j h ∙ q)

      pub sort-keep : Sorted s numbers images n (i + 1) r' images''
      unfolding top
      sort-keep =
          record {
            few = omega (arith, k.more, o.few);
            kept = kept';
            ascending = rising;
            all =
                below_more (λ p. Listed r' (number p) ⊎ (stands s numbers images p ≡ true)) i
                (λ p h. ⊎_elim (λ v. inl (listed (number p) v)) (λ q. inr q) (o.all p h))
                (inl (top, omega (arith, k.more), k.last));
            rest = λ j l h. others j h (λ q. omega (arith, o.few)) ∙ o.rest j (omega arith) h;
            eight = ap length put ∙ length-set_block images' top (block images' i) here full ∙ o.eight;
          }

-- ---- all images are kept or left out

module _ {s : List ℕ} {c : Change} {images d : List ℕ} {r : Change} {images' : List ℕ} (g : Draft s c images d)
    (o : Sorted s c.numbers images c.count c.count r images') where
  same_length : length d ≡ length s
  same_length = length-draft g

  -- a block that was listed, kept or not
  stands-in : (p : ℕ) → p < c.count → stands s c.numbers images p
      ≡ alike (covered (block s (get_or c.numbers p 0))) (covered (block d (get_or c.numbers p 0)))
  stands-in p h =
      ap (λ (x : List ℕ). alike (covered (block s (get_or c.numbers p 0))) (covered x))
      (sym (block-image g p h))

  altered : (j : ℕ) → j < r.count
      → alike (covered (block s (get_or r.numbers j 0))) (covered (block d (get_or r.numbers j 0))) ≡ false
  altered j h =
      let f = o.kept j h in
      ap (λ (k : ℕ). alike (covered (block s k)) (covered (block d k))) f.same
      ∙ sym (stands-in f.place f.early)
      ∙ f.alters

  fewer : Fits s r.numbers r.count
  fewer =
      record {
        few = omega (arith, o.few, g.fits.few);
        inside =
            λ j h.
            let f = o.kept j h in
            omega (arith, f.same, g.fits.inside f.place f.early);
        ascending = o.ascending;
      }

  named : (j : ℕ) → j < r.count → block (trimmed s d) (get_or r.numbers j 0) ≡ block images' j
  named j h =
      let f = o.kept j h in
      let k : ℕ = get_or r.numbers j 0 in
      block-trimmed s d g.whole same_length k (omega (arith, g.whole, fewer.inside j h))
      ∙ ap (λ (t : Bool). cond t (block s k) (block d k)) (altered j h)
      ∙ ap (block d) f.same
      ∙ block-image g f.place f.early
      ∙ sym f.image

  unlisted : (k : ℕ) → k < blocks s → ((j : ℕ) → j < r.count → get_or r.numbers j 0 ≢ k)
      → block (trimmed s d) k ≡ block s k
  unlisted k h free =
      block-trimmed s d g.whole same_length k h ∙ go (find-number c.numbers k c.count)
    where
      either : (t : Bool) → block d k ≡ block s k → cond t (block s k) (block d k) ≡ block s k
      either true e = refl
      either false e = e

      go : Listed c k ⊎ ((p : ℕ) → p < c.count → get_or c.numbers p 0 ≢ k)
          → cond (alike (covered (block s k)) (covered (block d k))) (block s k) (block d k) ≡ block s k
      go (inl w) =
          ⊎_elim (λ v. absurd (free v.0 v.1 (v.2 ∙ w.2)))
          (λ e.
          ap (λ (t : Bool). cond t (block s k) (block d k))
          (ap (λ (m : ℕ). alike (covered (block s m)) (covered (block d m))) (sym w.2)
          ∙ sym (stands-in w.0 w.1)
          ∙ e))
          (o.all w.0 w.1)
      go (inr none) =
          either (alike (covered (block s k)) (covered (block d k)))
          (block-rest g k h (λ w. none w.0 w.1 w.2))

  pub sort-end : Trimmed s d r images'
  sort-end =
      record {
        draft =
            record {
              whole = g.whole;
              fits = fewer;
              eight = o.eight;
              makes =
                  commits-ext s r.numbers images' r.count fewer o.eight (blocks s) (trimmed s d) g.whole
                  (length-trimmed s d g.whole same_length) named unlisted;
            };
        alters =
            λ k w.
            subst (λ (m : ℕ). covered (block s m) ≢ covered (block d m)) w.2 (alike-ne _ _ (altered w.0 w.1));
      }
