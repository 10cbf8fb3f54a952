-- A number that is listed already, and one that is put in at its place.
use mathlib.Core.Path.{◌≡◌, refl, sym, ap, ◌∙◌}
use mathlib.Core.Logic.{◌≢◌, ◌⊎◌, inl, inr}
use mathlib.Core.List.{List}
use Prim.Native.Nat.{ℕ, ◌+◌, ◌*◌, ◌-◌, ◌≤◌, ◌<◌}
use native.Mathlib.Decide.{ℕ_discrete, dec_lt}
use native.Mathlib.Omega.{arith}
use lib.ListN.{length, get_or}
use Rattle.lists.specs.Block.{blocks, block}
use Rattle.store.specs.declared.Change.{Change}
use Rattle.store.specs.Change.{Fits}
use Rattle.store.proofs.ChangeLaws.{commits-ext}
use Rattle.std.specs.Prelude.{Err}
use Rattle.draft.specs.Draft.{Draft, Listed, Lists}
use Rattle.draft.specs.DraftLaws.{length-draft, block-image, block-rest}
use Rattle.draft.specs.Open.{PlaceOf, Inserted}

pub lists-already : (c : Change) (k : ℕ) → Listed c k → Lists c k c
lists-already c k w =
    record { listed = w; keeps = λ j v. v; few = omega arith; same = λ v. refl }

module _ {s : List ℕ} {c : Change} {images d : List ℕ} (g : Draft s c images d) (k at : ℕ)
    (place : PlaceOf c.numbers c.count k (Err at)) where
  abbrev old : ℕ → ℕ
  old j = get_or c.numbers j 0

  -- the numbers from at on are above k
  above : (j : ℕ) → at ≤ j → j < c.count → k < old j
  above j l h = go (ℕ_discrete at j)
    where
      go : Dec (at ≡ j) → k < old j
      go (yes e) = omega (arith, place.2 (omega arith), ap old e)
      go (no ne) = omega (arith, place.2 (omega arith), g.fits.ascending at j (omega arith) h)

  absent : (j : ℕ) → j < c.count → old j ≢ k
  absent j h e = go (dec_lt j at)
    where
      go : Dec (j < at) → ⊥
      go (yes l) = omega (arith, place.1 j l)
      go (no l) = omega (arith, above j (omega arith) h)

  pub room-absent : (c.count < 8) ⊎ Listed c k → c.count < 8
  room-absent (inl h) = h
  room-absent (inr w) = absurd (absent w.0 w.1 w.2)

  module _ (inside : k < blocks s) (few : c.count < 8) (c' : Change) (more : c'.count ≡ c.count + 1)
      (put : Inserted at c.count k (λ j. get_or c.numbers j 0) (λ j. get_or c'.numbers j 0)) where
    abbrev new : ℕ → ℕ
    new j = get_or c'.numbers j 0

    -- a place of the new change is before at, is at, or comes after
    After : ℕ → Type 0
    After j = (i : ℕ) × (at ≤ i) × (i < c.count) × (j ≡ i + 1) × (new j ≡ old i)

    Side : ℕ → Type 0
    Side j = ((j < at) × (new j ≡ old j)) ⊎ (((j ≡ at) × (new j ≡ k)) ⊎ After j)

    side : (j : ℕ) → j < c'.count → Side j
    unfolding Side After
    side j h = go (dec_lt j at) (ℕ_discrete j at)
      where
        go : Dec (j < at) → Dec (j ≡ at) → Side j
        go (yes l) e = inl (l, put.before j l)
        go (no l) (yes e) = inr (inl (e, ap new e ∙ put.here))
        go (no l) (no e) =
            let q : j ≡ j - 1 + 1 = omega arith in
            inr (inr (j - 1, omega arith, omega arith, q, ap new q ∙ put.after (j - 1) (omega arith) (omega arith)))

    new-inside : (j : ℕ) → j < c'.count → 512 * new j + 512 ≤ length s
    unfolding Side After
    new-inside j h = go (side j h)
      where
        go : Side j → 512 * new j + 512 ≤ length s
        go (inl w) = omega (arith, w.1, g.fits.inside j (omega (arith, w.0, place.0)))
        go (inr (inl w)) = omega (arith, w.1, g.whole)
        go (inr (inr w)) = omega (arith, w.4, g.fits.inside w.0 w.2)

    new-ascending : (i j : ℕ) → i < j → j < c'.count → new i < new j
    unfolding Side After
    new-ascending i j l h = go (side i (omega arith)) (side j h)
      where
        go : Side i → Side j → new i < new j
        go (inl v) (inl w) = omega (arith, v.1, w.1, g.fits.ascending i j l (omega (arith, w.0, place.0)))
        go (inl v) (inr (inl w)) = omega (arith, v.1, w.1, place.1 i v.0)
        go (inl v) (inr (inr w)) = omega (arith, v.1, w.4, place.1 i v.0, above w.0 w.1 w.2)
        go (inr (inl v)) (inr (inr w)) = omega (arith, v.1, w.4, above w.0 w.1 w.2)
        go (inr (inr v)) (inr (inr w)) =
            omega (arith, v.4, w.4, g.fits.ascending v.0 w.0 (omega (arith, v.3, w.3)) w.2)
        go (inr (inl v)) (inl w) = absurd (omega (arith, v.0, w.0))
        go (inr (inl v)) (inr (inl w)) = absurd (omega (arith, v.0, w.0))
        go (inr (inr v)) (inl w) = absurd (omega (arith, v.1, v.3, w.0))
        go (inr (inr v)) (inr (inl w)) = absurd (omega (arith, v.1, v.3, w.0))

    new-fits : Fits s c'.numbers c'.count
    new-fits = record { few = omega arith; inside = new-inside; ascending = new-ascending }

    -- a number that was listed still is
    kept : (j : ℕ) → Listed c j → Listed c' j
    kept j (i, h, e) = go (dec_lt i at)
      where
        go : Dec (i < at) → Listed c' j
        go (yes l) = (i, omega arith, put.before i l ∙ e)
        go (no l) = (i + 1, omega arith, put.after i (omega arith) h ∙ e)

    pub lists-more : Lists c k c'
    lists-more =
        record {
          listed = (at, omega (arith, place.0), put.here);
          keeps = kept;
          few = omega arith;
          same = λ w. absurd (absent w.0 w.1 w.2);
        }

    module _ (images' : List ℕ) (eight : length images' ≡ 4096)
        (copied : Inserted at c.count (block s k) (block images) (block images')) where
      named : (j : ℕ) → j < c'.count → block d (new j) ≡ block images' j
      unfolding Side After
      named j h = go (side j h)
        where
          go : Side j → block d (new j) ≡ block images' j
          go (inl w) =
              ap (block d) w.1 ∙ block-image g j (omega (arith, w.0, place.0))
              ∙ sym (copied.before j w.0)
          go (inr (inl w)) =
              ap (block d) w.1 ∙ block-rest g k inside (λ v. absent v.0 v.1 v.2)
              ∙ sym copied.here ∙ ap (block images') (sym w.0)
          go (inr (inr w)) =
              ap (block d) w.4 ∙ block-image g w.0 w.2
              ∙ sym (copied.after w.0 w.1 w.2) ∙ ap (block images') (sym w.3)

      pub draft-more : Draft s c' images' d
      draft-more =
          record {
            whole = g.whole;
            fits = new-fits;
            eight = eight;
            makes =
                commits-ext s c'.numbers images' c'.count new-fits eight (blocks s) d g.whole
                (length-draft g ∙ g.whole) named
                (λ j h free.
                block-rest g j h
                (λ w. let v = kept j w in free v.0 v.1 v.2));
          }
