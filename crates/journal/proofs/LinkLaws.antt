-- A planned change, which lists exactly the blocks that it alters, has the images and the plan of the change to t.
use Rattle.std.specs.Prelude.{◌≡◌, refl, ◌≢◌, ℕ, zero, suc, ◌*◌, ◌≤◌, ◌<◌, length}
use Rattle.std.proofs.Math.Path.{sym, ap, ap₂}
use Rattle.std.proofs.Common.{◌∙◌, arith, get_or-take, length-take-le}
use Rattle.std.proofs.Math.Logic.{⊎_elim}
use mathlib.Core.List.{List, [], ◌∷◌, ◌++◌}
use Rattle.std.proofs.Math.ListN.{get_or, take, replicate}
use Rattle.std.proofs.Math.Seq.{take-length}
use Rattle.lists.specs.Lists.{bind}
use Rattle.lists.specs.Block.{block}
use Rattle.lists.specs.BlockLaws.{blocks-ext}
use Rattle.endian.specs.Endian.{le32}
use Rattle.store.specs.Store.{sealed}
use Rattle.store.specs.Change.{commits, Fits}
use Rattle.store.specs.CopyLaws.{find_at_lem}
use Rattle.store.proofs.ChangeLaws.{block-commits, block-commits-rest, length-commits}
use Rattle.journal.specs.Journal.{head_bytes, head, ending, wiped}
use Rattle.journal.specs.Altered.{altered, images_of}
use Rattle.journal.specs.Planned.{plan_to}
use Rattle.journal.specs.PartLaws.{block-take}
use Rattle.journal.proofs.AlteredLaws.{altered-below, altered-ascending, altered-differs, altered-missed, length-images_of, block-images_of}
use Rattle.journal.proofs.PlannedLaws.{plan_to-some}

-- ---- two ascending lists of the same numbers are one

Ascends : List ℕ → Type 0
Ascends xs = (i j : ℕ) → i < j → j < length xs → get_or xs i 0 < get_or xs j 0

Within : List ℕ → List ℕ → Type 0
Within xs ys = (i : ℕ) → i < length xs → (j : ℕ) × (j < length ys) × (get_or ys j 0 ≡ get_or xs i 0)

least : (x : ℕ) (xs : List ℕ) → Ascends (x ∷ xs) → (j : ℕ) → j < length (x ∷ xs) → x ≤ get_or (x ∷ xs) j 0
unfolding Ascends
least x xs a zero l = omega arith
least x xs a (suc j) l = omega (arith, a 0 (suc j) (omega arith) l)

tail : (x : ℕ) (xs : List ℕ) → Ascends (x ∷ xs) → Ascends xs
unfolding Ascends
tail x xs a i j l m = a (suc i) (suc j) (omega arith) (omega arith)

within-tail : (x y : ℕ) (xs ys : List ℕ) → x ≡ y → Ascends (x ∷ xs) → Within (x ∷ xs) (y ∷ ys) → Within xs ys
unfolding Ascends Within
within-tail x y xs ys e a w i l = go (w (suc i) (omega arith))
  where
    go : (j : ℕ) × (j < length (y ∷ ys)) × (get_or (y ∷ ys) j 0 ≡ get_or xs i 0)
        → (j : ℕ) × (j < length ys) × (get_or ys j 0 ≡ get_or xs i 0)
    go v = at v.0 v.1 v.2
      where
        at : (j : ℕ) → j < length (y ∷ ys) → get_or (y ∷ ys) j 0 ≡ get_or xs i 0
            → (j : ℕ) × (j < length ys) × (get_or ys j 0 ≡ get_or xs i 0)
        at zero h q = absurd (omega (arith, a 0 (suc i) (omega arith) (omega arith)))
        at (suc j) h q = (j, omega arith, q)

ascending-same : (xs ys : List ℕ) → Ascends xs → Ascends ys → Within xs ys → Within ys xs → xs ≡ ys
unfolding Within
ascending-same [] [] a b v w = refl
ascending-same [] (y ∷ ys) a b v w = let h = w 0 (omega arith) in absurd (omega (arith, h.1))
ascending-same (x ∷ xs) [] a b v w = let h = v 0 (omega arith) in absurd (omega (arith, h.1))
ascending-same (x ∷ xs) (y ∷ ys) a b v w =
    let p = v 0 (omega arith) in
    let q = w 0 (omega arith) in
    let e : x ≡ y = omega (arith, p.2, q.2, least y ys b p.0 p.1, least x xs a q.0 q.1) in
    let r : xs ≡ ys =
    ascending-same xs ys (tail x xs a) (tail y ys b) (within-tail x y xs ys e a v)
    (within-tail y x ys xs (sym e) b w) in
    cc

-- ---- the plan

module _ (s t numbers images : List ℕ) (m n : ℕ) (ls : length s ≡ 512 * m) (fits : Fits s numbers n)
    (full : length images ≡ 4096) (listed : n ≤ length numbers) (makes : commits s numbers images n ≡ t)
    (alters : (j : ℕ) → j < n → block s (get_or numbers j 0) ≢ block t (get_or numbers j 0)) where
  lt : length t ≡ 512 * m
  lt = sym (ap length makes) ∙ length-commits s numbers images n fits full ∙ ls

  len : length (take n numbers) ≡ n
  len = length-take-le n numbers listed

  got : (j : ℕ) → j < n → get_or (take n numbers) j 0 ≡ get_or numbers j 0
  got j h = get_or-take n numbers j 0 h

  planned : Ascends (take n numbers)
  unfolding Ascends
  planned i j l h =
      omega (arith, fits.ascending i j l (omega (arith, len)), got i (omega (arith, len)), got j (omega (arith, len)))

  in-altered : Within (take n numbers) (altered s t)
  unfolding Within
  in-altered i h =
      let i< : i < n = omega (arith, len) in
      let k = get_or numbers i 0 in
      ⊎_elim (λ w. (w.0, w.1, w.2 ∙ sym (got i i<)))
      (λ none. absurd (alters i i< (altered-missed s t m ls lt k (omega (arith, fits.inside i i<)) none)))
      (find_at_lem (λ j. get_or (altered s t) j 0) k (length (altered s t)))

  in-planned : Within (altered s t) (take n numbers)
  unfolding Within
  in-planned i h =
      let k = get_or (altered s t) i 0 in
      ⊎_elim (λ w. (w.0, omega (arith, w.1, len), got w.0 w.1 ∙ w.2))
      (λ none.
      absurd
      (altered-differs s t m ls lt i h
      (sym (block-commits-rest s numbers images n fits full k (omega (arith, altered-below s t m ls lt i h)) none)
      ∙ ap (λ (x : List ℕ). block x k) makes)))
      (find_at_lem (λ j. get_or numbers j 0) k n)

  -- it lists exactly the blocks that it alters
  pub altered-planned : altered s t ≡ take n numbers
  unfolding Ascends
  altered-planned =
      sym
      (ascending-same (take n numbers) (altered s t) planned (altered-ascending s t m ls lt) in-altered in-planned)

  count : n ≡ length (altered s t)
  count = sym len ∙ ap length (sym altered-planned)

  name : (j : ℕ) → j < n → get_or numbers j 0 ≡ get_or (altered s t) j 0
  name j h = sym (got j h) ∙ ap (λ (l : List ℕ). get_or l j 0) (sym altered-planned)

  body : (j : ℕ) → j < n → block images j ≡ block (images_of s t) j
  body j h =
      sym (block-commits s numbers images n fits full j h)
      ∙ ap (λ (x : List ℕ). block x (get_or numbers j 0)) makes
      ∙ ap (block t) (name j h)
      ∙ sym (block-images_of s t m ls lt j (omega (arith, count)))

  -- and its images are theirs
  pub images_of-planned : images_of s t ≡ take (512 * n) images
  images_of-planned =
      let few = fits.few in
      let front : length (take (512 * n) images) ≡ 512 * n = length-take-le (512 * n) images (omega arith) in
      blocks-ext n (images_of s t) (take (512 * n) images) (omega (arith, length-images_of s t m ls lt, count)) front
      (λ j h. sym (body j h) ∙ sym (block-take images (512 * n) j (omega arith) (omega arith)))

  heads : (number : ℕ) → head_bytes number numbers n ≡ head_bytes number (altered s t) (length (altered s t))
  unfolding head_bytes
  heads number =
      ap₂ (λ (c : ℕ) (l : List ℕ). take 508 (le32 number ++ (le32 c ++ (bind l le32 ++ replicate 508 0)))) count
      (sym altered-planned ∙ sym (take-length (altered s t)))

  -- and its plan is that of the change from s to t
  pub plan_to-planned : (number : ℕ) → 1 ≤ n
      → plan_to number s t
      ≡ head number numbers n ++ (ending number numbers n ++ (wiped ++ take (512 * n) images))
  unfolding head ending
  plan_to-planned number some =
      let same = sym (heads number) in
      plan_to-some number s t (omega (arith, count))
      ∙ (λ i. sealed number 0 (same i) ++ (sealed number 15 (same i) ++ (wiped ++ images_of-planned i)))
