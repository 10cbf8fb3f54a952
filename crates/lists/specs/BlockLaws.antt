-- Blocks of a store after one of them is replaced; a store by its blocks.
use Rattle.std.specs.Prelude.{◌≡◌, refl, ◌⊎◌, ◌≢◌, Bool, true, false, ltb}
use Rattle.std.proofs.Common.{sym, ◌∙◌, inl, inr, ⊎_elim, ltb-true, ltb-false, length-append, length-drop, ext_get_or, drop_at, drop-drop}
use Rattle.std.proofs.Math.Path.{ap}
use mathlib.Core.List.{List, ◌++◌}
use Prim.Native.Nat.{ℕ, zero, suc, ◌+◌, ◌*◌, ◌-◌, ◌/◌, ◌%◌, ◌≤◌, ◌<◌}
use native.Mathlib.Omega.{arith}
use Rattle.std.proofs.Math.ListN.{length, take, drop, get_or, length-take, get_or-append}
use Rattle.std.proofs.Math.Seq.{get_or-take, get_or-drop, take_at, get_or-append-add, length-take-le}
use Rattle.lists.specs.Lists.{bind, up_from}
use Rattle.lists.specs.Bytes.{Bytes}
use Rattle.lists.specs.BytesLaws.{Bytes-take, Bytes-drop}
use Rattle.lists.specs.Block.{block, set_block}

-- two numbers are in order or not
order : (a b : ℕ) → (a < b) ⊎ (b ≤ a)
order a b = go (ltb a b) refl
  where
    go : (t : Bool) → ltb a b ≡ t → (a < b) ⊎ (b ≤ a)
    go true e = inl (ltb-true a b e)
    go false e = inr (ltb-false a b e)

pub length-block : (s : List ℕ) (k : ℕ) → 512 * k + 512 ≤ length s → length (block s k) ≡ 512
unfolding block
length-block s k h = simp (length-take, length-drop) (omega arith)

pub get_or-block : (s : List ℕ) (k i : ℕ) → i < 512 → get_or (block s k) i 0 ≡ get_or s (512 * k + i) 0
unfolding block
get_or-block s k i h = get_or-take 512 (drop (512 * k) s) i 0 h ∙ get_or-drop (512 * k) s i 0

module _ (s : List ℕ) (k : ℕ) (b : List ℕ) (fits : 512 * k + 512 ≤ length s) (full : length b ≡ 512) where
  pub length-set_block : length (set_block s k b) ≡ length s
  unfolding set_block
  length-set_block = simp (length-append, length-take, length-drop) (omega arith)

  pub block_same : block (set_block s k b) k ≡ b
  unfolding block set_block
  block_same =
      let l : length (take (512 * k) s) ≡ 512 * k = length-take-le (512 * k) s (omega arith) in
      ap (λ (r : List ℕ). take 512 r) (drop_at (take (512 * k) s) (b ++ drop (512 * k + 512) s) (512 * k) l)
      ∙ take_at b (drop (512 * k + 512) s) 512 full

  -- a byte before or after the block is as it was
  pub get_or-set_block-other : (n : ℕ) → (n < 512 * k) ⊎ (512 * k + 512 ≤ n) → get_or (set_block s k b) n 0 ≡ get_or s n 0
  unfolding set_block
  get_or-set_block-other n (inl h) =
      let l : length (take (512 * k) s) ≡ 512 * k = length-take-le (512 * k) s (omega arith) in
      get_or-append (take (512 * k) s) (b ++ drop (512 * k + 512) s) 0 n (omega arith)
      ∙ get_or-take (512 * k) s n 0 h
  get_or-set_block-other n (inr h) =
      let l : length (take (512 * k) s) ≡ 512 * k = length-take-le (512 * k) s (omega arith) in
      let e : n ≡ length (take (512 * k) s) + (length b + (n - (512 * k + 512))) = omega arith in
      ap (λ (m : ℕ). get_or (take (512 * k) s ++ (b ++ drop (512 * k + 512) s)) m 0) e
      ∙ get_or-append-add (take (512 * k) s) (b ++ drop (512 * k + 512) s) (length b + (n - (512 * k + 512))) 0
      ∙ get_or-append-add b (drop (512 * k + 512) s) (n - (512 * k + 512)) 0
      ∙ get_or-drop (512 * k + 512) s (n - (512 * k + 512)) 0
      ∙ ap (λ (m : ℕ). get_or s m 0) (omega arith)

  pub block-other : (j : ℕ) → 512 * j + 512 ≤ length s → j ≢ k → block (set_block s k b) j ≡ block s j
  block-other j hj ne =
      let lj : length (block s j) ≡ 512 = length-block s j hj in
      let ls : length (set_block s k b) ≡ length s = length-set_block in
      let lj' : length (block (set_block s k b) j) ≡ 512 = length-block (set_block s k b) j (omega arith) in
      ext_get_or 0 (block (set_block s k b) j) (block s j) (lj' ∙ sym lj)
      (λ i hi.
      let i< : i < 512 = omega arith in
      get_or-block (set_block s k b) j i i<
      ∙ get_or-set_block-other (512 * j + i) (sides i i<)
      ∙ sym (get_or-block s j i i<))
    where
      sides : (i : ℕ) → i < 512 → (512 * j + i < 512 * k) ⊎ (512 * k + 512 ≤ 512 * j + i)
      sides i h = ⊎_elim (λ l. inl (omega arith)) (λ l. inr (omega arith)) (order j k)

-- two stores of n blocks whose blocks agree are one
pub blocks-ext : (n : ℕ) (s t : List ℕ) → length s ≡ 512 * n → length t ≡ 512 * n → ((k : ℕ) → k < n → block s k ≡ block t k) → s ≡ t
blocks-ext n s t ls lt h =
    ext_get_or 0 s t (ls ∙ sym lt) (λ m hm.
    let q< : m / 512 < n = omega arith in
    let r< : m % 512 < 512 = omega arith in
    let e : m ≡ 512 * (m / 512) + m % 512 = omega arith in
    ap (λ (k : ℕ). get_or s k 0) e
    ∙ sym (get_or-block s (m / 512) (m % 512) r<)
    ∙ ap (λ (b : List ℕ). get_or b (m % 512) 0) (h (m / 512) q<)
    ∙ get_or-block t (m / 512) (m % 512) r<
    ∙ ap (λ (k : ℕ). get_or t k 0) (sym e))

-- ---- a store made of images, one for each number from i on

module _ (f : ℕ → List ℕ) (whole : (k : ℕ) → length (f k) ≡ 512) where
  pub length-bind : (i n : ℕ) → length (bind (up_from i n) f) ≡ 512 * n
  length-bind i zero = refl
  length-bind i (suc n) = length-append (f i) (bind (up_from (suc i) n) f) ∙ omega (arith, whole i, length-bind (suc i) n)

  pub block-bind : (i n k : ℕ) → k < n → block (bind (up_from i n) f) k ≡ f (i + k)
  unfolding block
  block-bind i zero k h = absurd (omega arith)
  block-bind i (suc n) zero h =
      let e : i ≡ i + 0 = omega arith in
      take_at (f i) (bind (up_from (suc i) n) f) 512 (whole i) ∙ ap f e
  block-bind i (suc n) (suc k) h =
      let e : suc i + k ≡ i + suc k = omega arith in
      let m : 512 * suc k ≡ 512 + 512 * k = omega arith in
      ap (λ (j : ℕ). take 512 (drop j (f i ++ bind (up_from (suc i) n) f))) m
      ∙ ap (take 512) (sym (drop-drop (512 * k) 512 (f i ++ bind (up_from (suc i) n) f)))
      ∙ ap (λ (r : List ℕ). take 512 (drop (512 * k) r)) (drop_at (f i) (bind (up_from (suc i) n) f) 512 (whole i))
      ∙ block-bind (suc i) n k (omega arith)
      ∙ ap f e

-- ---- bytes

pub Bytes-block : (s : List ℕ) (k : ℕ) → Bytes s → Bytes (block s k)
unfolding block
Bytes-block s k h = Bytes-take 512 (drop (512 * k) s) (Bytes-drop (512 * k) s h)
