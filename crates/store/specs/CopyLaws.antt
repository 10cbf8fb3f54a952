-- Blocks put into a list one after the other: what each block of the list is then.
use Rattle.std.specs.Prelude.{◌≡◌, ◌≢◌, ◌⊎◌, length}
use Rattle.std.proofs.Math.Path.{refl}
use Rattle.std.proofs.Common.{sym, ap, ◌∙◌, inl, inr, ⊎_elim, arith, below_more}
use mathlib.Core.List.{List}
use Prim.Native.Nat.{ℕ, zero, suc, ◌+◌, ◌*◌, ◌≤◌, ◌<◌}
use Rattle.std.proofs.Math.Decide.{ℕ_discrete}
use Rattle.std.proofs.Math.Numerals.{add-one}
use Rattle.lists.specs.Block.{block, set_block}
use Rattle.lists.specs.BlockLaws.{length-set_block, block_same, block-other, blocks-ext}
use Rattle.store.specs.Change.{copies}

-- n whole blocks, for places inside of s, no two the same
pub record Copying (s : List ℕ) (at : ℕ → ℕ) (b : ℕ → List ℕ) (n : ℕ) : Type 0 where
  pub inside : (j : ℕ) → j < n → 512 * at j + 512 ≤ length s
  pub whole : (j : ℕ) → j < n → length (b j) ≡ 512
  pub apart : (i j : ℕ) → i < j → j < n → at i ≢ at j

-- one of the first n places is k, or none is
pub find_at_lem : (at : ℕ → ℕ) (k n : ℕ) → ((j : ℕ) × (j < n) × (at j ≡ k)) ⊎ ((j : ℕ) → j < n → at j ≢ k)
find_at_lem at k zero = inr (λ j h e. omega arith)
find_at_lem at k (suc n) =
    ⊎_elim (λ w. inl (w.0, omega (arith, w.1), w.2)) (λ none. last none (ℕ_discrete (at n) k)) (find_at_lem at k n)
  where
    last : ((j : ℕ) → j < n → at j ≢ k) → Dec (at n ≡ k)
        → ((j : ℕ) × (j < suc n) × (at j ≡ k)) ⊎ ((j : ℕ) → j < suc n → at j ≢ k)
    last none (yes e) = inl (n, omega arith, e)
    last none (no ne) = inr (λ j h. below_more (λ i. at i ≢ k) n none ne j (omega arith))

module _ (s : List ℕ) (at : ℕ → ℕ) (b : ℕ → List ℕ) where
  pub copies-zero : copies s at b 0 ≡ s
  unfolding copies
  copies-zero = refl

  pub copies-suc : (n : ℕ) → set_block (copies s at b n) (at n) (b n) ≡ copies s at b (n + 1)
  unfolding copies
  copies-suc n = rw add-one

module _ {s : List ℕ} {at : ℕ → ℕ} {b : ℕ → List ℕ} {n : ℕ} (c : Copying s at b n) where
  pub length-copies : (m : ℕ) → m ≤ n → length (copies s at b m) ≡ length s
  unfolding copies
  length-copies zero h = refl
  length-copies (suc m) h =
      let ih = length-copies m (omega arith) in
      length-set_block (copies s at b m) (at m) (b m) (omega (arith, c.inside m h)) (c.whole m h) ∙ ih

  -- a block into which nothing was put is as it was
  pub block-copies-rest : (m k : ℕ) → m ≤ n → 512 * k + 512 ≤ length s → ((j : ℕ) → j < m → at j ≢ k)
      → block (copies s at b m) k ≡ block s k
  unfolding copies
  block-copies-rest zero k h fits free = refl
  block-copies-rest (suc m) k h fits free =
      let l = length-copies m (omega arith) in
      block-other (copies s at b m) (at m) (b m) (omega (arith, c.inside m h)) (c.whole m h) k (omega arith)
      (λ e. free m (omega arith) (sym e))
      ∙ block-copies-rest m k (omega arith) fits (λ j lt. free j (omega arith))

  -- the others are what was put there
  pub block-copies : (m j : ℕ) → m ≤ n → j < m → block (copies s at b m) (at j) ≡ b j
  unfolding copies
  block-copies zero j h lt = absurd (omega arith)
  block-copies (suc m) j h lt =
      let l = length-copies m (omega arith) in
      go (omega (arith, c.inside m h)) (omega (arith, c.inside j (omega arith))) (ℕ_discrete j m)
      (λ lt. block-copies m j (omega arith) lt)
    where
      t : List ℕ
      t = copies s at b m

      go : 512 * at m + 512 ≤ length t → 512 * at j + 512 ≤ length t → Dec (j ≡ m) → (j < m → block t (at j) ≡ b j)
          → block (set_block t (at m) (b m)) (at j) ≡ b j
      go here there (yes e) ih =
          ap (λ (i : ℕ). block (set_block t (at m) (b m)) (at i)) e
          ∙ block_same t (at m) (b m) here (c.whole m h)
          ∙ ap b (sym e)
      go here there (no ne) ih =
          let before : j < m = omega arith in
          block-other t (at m) (b m) here (c.whole m h) (at j) there (c.apart j m before h) ∙ ih before

  -- a list of m blocks that has these blocks is the one after the n
  pub copies-ext : (m : ℕ) (t : List ℕ) → length s ≡ 512 * m → length t ≡ 512 * m
      → ((j : ℕ) → j < n → block t (at j) ≡ b j)
      → ((k : ℕ) → k < m → ((j : ℕ) → j < n → at j ≢ k) → block t k ≡ block s k)
      → t ≡ copies s at b n
  copies-ext m t ls lt named rest =
      blocks-ext m t (copies s at b n) lt (length-copies n (omega arith) ∙ ls)
      (λ k h.
      ⊎_elim
      (λ w.
      ap (block t) (sym w.2) ∙ named w.0 w.1
      ∙ sym (block-copies n w.0 (omega arith) w.1) ∙ ap (block (copies s at b n)) w.2)
      (λ none. rest k h none ∙ sym (block-copies-rest n k (omega arith) (omega arith) none))
      (find_at_lem at k n))
