-- A store in which several blocks are replaced.
use Rattle.std.proofs.Math.Path.{◌≡◌, sym, ap, ap₂}
use Rattle.std.proofs.Common.{◌∙◌, take_at, drop-drop}
use Rattle.std.specs.Prelude.{◌≢◌, cond, eqb}
use mathlib.Core.List.{List, ◌++◌}
use Prim.Native.Nat.{ℕ, ◌+◌, ◌*◌, ◌≤◌, ◌<◌}
use Rattle.std.proofs.Math.Decide.{ℕ_discrete}
use native.Mathlib.Omega.{arith}
use Rattle.std.proofs.Math.ListN.{length, take, drop, set, length-drop, take-append-drop}
use Rattle.std.proofs.Math.Seq.{drop-append-add, length-take-le, set-append_left}
use Rattle.std.proofs.lemmas.List.{take-set-le, drop-set-add}
use Rattle.lists.specs.ListsLaws.{eqb_yes, eqb_no}
use Rattle.lists.specs.Block.{blocks, block, set_block}
use Rattle.lists.specs.BlockLaws.{length-set_block, block_same, block-other}

module _ (d : List ℕ) (k : ℕ) (inside : 512 * k + 512 ≤ length d) where
  -- the last that is put into a block stays
  pub set_block-twice : (b b' : List ℕ) → length b ≡ 512 → set_block (set_block d k b) k b' ≡ set_block d k b'
  unfolding set_block
  set_block-twice b b' full =
      let front : List ℕ = take (512 * k) d in
      let end : List ℕ = drop (512 * k + 512) d in
      let lf : length front ≡ 512 * k = length-take-le (512 * k) d (omega arith) in
      let n : 512 * k + 512 ≡ length front + 512 = omega arith in
      let m : ◌≡◌ {A = ℕ} 512 (length b + 0) = omega arith in
      ap₂ (λ (x y : List ℕ). x ++ (b' ++ y)) (take_at front (b ++ end) (512 * k) lf)
      (ap (λ (i : ℕ). drop i (front ++ (b ++ end))) n
      ∙ drop-append-add front (b ++ end) 512
      ∙ ap (λ (i : ℕ). drop i (b ++ end)) m
      ∙ drop-append-add b end 0)

  -- a block is put back
  pub set_block-same : set_block d k (block d k) ≡ d
  unfolding set_block block
  set_block-same =
      ap (λ (x : List ℕ). take (512 * k) d ++ (take 512 (drop (512 * k) d) ++ x)) (sym (drop-drop 512 (512 * k) d))
      ∙ ap (λ (x : List ℕ). take (512 * k) d ++ x) (take-append-drop 512 (drop (512 * k) d))
      ∙ take-append-drop (512 * k) d

  -- one byte of a block is replaced
  pub set_block-set : (i x : ℕ) → i < 512 → set d (512 * k + i) x ≡ set_block d k (set (block d k) i x)
  unfolding set_block block
  set_block-set i x h =
      let front : List ℕ = take (512 * k) d in
      let rest : List ℕ = drop (512 * k) d in
      let lr : length (take 512 rest) ≡ 512 = length-take-le 512 rest (omega (arith, length-drop (512 * k) d)) in
      sym (take-append-drop (512 * k) (set d (512 * k + i) x))
      ∙ ap₂ (λ (y z : List ℕ). y ++ z) (take-set-le (512 * k) d (512 * k + i) x (omega arith))
      (drop-set-add (512 * k) d i x
      ∙ ap (λ (y : List ℕ). set y i x) (sym (take-append-drop 512 rest))
      ∙ set-append_left (take 512 rest) (drop 512 rest) i x (omega arith)
      ∙ ap (λ (y : List ℕ). set (take 512 rest) i x ++ y) (drop-drop 512 (512 * k) d))

-- ---- a store of n blocks, read after a block is replaced

pub blocks-whole : (n : ℕ) (d : List ℕ) → length d ≡ 512 * n → blocks d ≡ n
unfolding blocks
blocks-whole n d e = omega arith

module _ (n : ℕ) (d : List ℕ) (whole : length d ≡ 512 * n) (k : ℕ) (inside : k < n) (b : List ℕ)
    (full : length b ≡ 512) where
  pub length-put : length (set_block d k b) ≡ 512 * n
  length-put = length-set_block d k b (omega arith) full ∙ whole

  pub read_same : block (set_block d k b) k ≡ b
  read_same = block_same d k b (omega arith) full

  pub read-other : (j : ℕ) → j < n → j ≢ k → block (set_block d k b) j ≡ block d j
  read-other j h ne = block-other d k b (omega arith) full j (omega arith) ne

  pub read-put : (j : ℕ) → j < n → block (set_block d k b) j ≡ cond (eqb j k) b (block d j)
  read-put j h = go (ℕ_discrete j k)
    where
      go : Dec (j ≡ k) → block (set_block d k b) j ≡ cond (eqb j k) b (block d j)
      go (yes e) = ap (block (set_block d k b)) e ∙ read_same ∙ rw (eqb_yes j k e)
      go (no ne) = read-other j h ne ∙ rw (eqb_no j k ne)
