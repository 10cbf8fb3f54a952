-- The blocks of sealed images, and those of a store after a change.
use Rattle.std.specs.Prelude.{◌≡◌, ◌≢◌, ◌⊎◌, ℕ, ◌+◌, ◌*◌, ◌≤◌, ◌<◌, length}
use Rattle.std.proofs.Math.Path.{ap}
use Rattle.std.proofs.Common.{◌∙◌, arith}
use mathlib.Core.List.{List}
use Rattle.std.proofs.Math.ListN.{get_or}
use Rattle.lists.specs.Block.{block, set_block}
use Rattle.lists.specs.BlockLaws.{length-block}
use Rattle.store.specs.Store.{sealed}
use Rattle.store.specs.Change.{Fits, commits, stored, seals}
use Rattle.store.proofs.CheckLaws.{length-sealed}
use Rattle.store.specs.CopyLaws.{
  Copying,
  find_at_lem,
  copies-zero,
  copies-suc,
  length-copies,
  block-copies,
  block-copies-rest,
  copies-ext,
}

-- ---- sealed images

module _ (number : ℕ) (numbers images : List ℕ) (n : ℕ) (fits : 512 * n ≤ length images) where
  sealing : Copying images (λ j. j) (λ j. sealed number (get_or numbers j 0) (block images j)) n
  sealing =
      record {
        inside = λ j h. omega arith;
        whole =
            λ j h.
            length-sealed number (get_or numbers j 0) (block images j)
            (omega (arith, length-block images j (omega arith)));
        apart = λ i j h k e. omega arith;
      }

  pub length-seals : length (seals number numbers images n) ≡ length images
  unfolding seals
  length-seals = length-copies sealing n (omega arith)

  pub block-seals : (j : ℕ) → j < n
      → block (seals number numbers images n) j ≡ sealed number (get_or numbers j 0) (block images j)
  unfolding seals
  block-seals j h = block-copies sealing n j (omega arith) h

  -- from the n-th on they are as they were
  pub block-seals-rest : (j : ℕ) → n ≤ j → 512 * j + 512 ≤ length images
      → block (seals number numbers images n) j ≡ block images j
  unfolding seals
  block-seals-rest j h b = block-copies-rest sealing n j (omega arith) b (λ i lt e. omega arith)

module _ (number : ℕ) (numbers images : List ℕ) where
  pub seals-zero : seals number numbers images 0 ≡ images
  unfolding seals
  seals-zero = copies-zero images (λ j. j) (λ j. sealed number (get_or numbers j 0) (block images j))

  -- one image more, sealed in its place
  pub seals-suc : (n : ℕ) → 512 * n + 512 ≤ length images
      → let made = seals number numbers images n in
      set_block made n (sealed number (get_or numbers n 0) (block made n)) ≡ seals number numbers images (n + 1)
  unfolding seals
  seals-suc n h =
      ap (λ (b : List ℕ). set_block (seals number numbers images n) n (sealed number (get_or numbers n 0) b))
      (block-seals-rest number numbers images n (omega arith) n (omega arith) h)
      ∙ copies-suc images (λ j. j) (λ j. sealed number (get_or numbers j 0) (block images j)) n

-- ---- a change

module _ (s numbers images : List ℕ) where
  pub commits-zero : commits s numbers images 0 ≡ s
  unfolding commits
  commits-zero = copies-zero s (λ j. get_or numbers j 0) (block images)

  pub commits-suc : (n : ℕ) → stored (commits s numbers images n) numbers images n ≡ commits s numbers images (n + 1)
  unfolding commits stored
  commits-suc n = copies-suc s (λ j. get_or numbers j 0) (block images) n

-- whether a change fits depends on the store's length alone
pub fits-cong : (s t numbers : List ℕ) (n : ℕ) → length s ≡ length t → Fits s numbers n → Fits t numbers n
fits-cong s t numbers n e f =
    record { few = f.few; inside = λ j h. omega (arith, f.inside j h); ascending = f.ascending }

-- one of the first n numbers is k, or none is
pub find-number : (numbers : List ℕ) (k n : ℕ)
    → ((j : ℕ) × (j < n) × (get_or numbers j 0 ≡ k)) ⊎ ((j : ℕ) → j < n → get_or numbers j 0 ≢ k)
find-number numbers k n = find_at_lem (λ j. get_or numbers j 0) k n

module _ (s numbers images : List ℕ) (n : ℕ) (fits : Fits s numbers n) (eight : length images ≡ 4096) where
  pub committing : Copying s (λ j. get_or numbers j 0) (block images) n
  committing =
      record {
        inside = fits.inside;
        whole = λ j h. length-block images j (omega (arith, fits.few));
        apart = λ i j h k e. omega (arith, fits.ascending i j h k);
      }

  pub length-commits : length (commits s numbers images n) ≡ length s
  unfolding commits
  length-commits = length-copies committing n (omega arith)

  -- a block that a number names is that number's image
  pub block-commits : (j : ℕ) → j < n → block (commits s numbers images n) (get_or numbers j 0) ≡ block images j
  unfolding commits
  block-commits j h = block-copies committing n j (omega arith) h

  -- one that none names is as it was
  pub block-commits-rest : (k : ℕ) → 512 * k + 512 ≤ length s → ((j : ℕ) → j < n → get_or numbers j 0 ≢ k)
      → block (commits s numbers images n) k ≡ block s k
  unfolding commits
  block-commits-rest k h free = block-copies-rest committing n k (omega arith) h free

  -- a store of m blocks that has these blocks is the one after the change
  pub commits-ext : (m : ℕ) (t : List ℕ) → length s ≡ 512 * m → length t ≡ 512 * m
      → ((j : ℕ) → j < n → block t (get_or numbers j 0) ≡ block images j)
      → ((k : ℕ) → k < m → ((j : ℕ) → j < n → get_or numbers j 0 ≢ k) → block t k ≡ block s k)
      → t ≡ commits s numbers images n
  unfolding commits
  commits-ext m t ls lt named rest = copies-ext committing m t ls lt named rest
