-- Blocks of lists that are put together.
use Rattle.std.specs.Prelude.{◌≡◌, refl, length, drop}
use Rattle.std.proofs.Common.{sym, ◌∙◌, length-append, get_or-take, length-take-le, drop_at, drop-drop, ext_get_or}
use Rattle.std.proofs.Math.Path.{ap}
use mathlib.Core.List.{List, ◌++◌}
use Prim.Native.Nat.{ℕ, suc, ◌+◌, ◌*◌, ◌≤◌}
use native.Mathlib.Omega.{arith}
use Rattle.std.proofs.Math.ListN.{take}
use Rattle.std.proofs.Math.Seq.{take_at}
use Rattle.lists.specs.Block.{block}
use Rattle.lists.specs.BlockLaws.{length-block, get_or-block}

-- the first block, and the others
module _ (a r : List ℕ) (whole : length a ≡ 512) where
  pub block-first : block (a ++ r) 0 ≡ a
  unfolding block
  block-first = take_at a r 512 whole

  pub block-next : (k : ℕ) → block (a ++ r) (suc k) ≡ block r k
  unfolding block
  block-next k =
      let m : 512 * suc k ≡ 512 + 512 * k = omega arith in
      ap (λ (i : ℕ). take 512 (drop i (a ++ r))) m
      ∙ ap (take 512) (sym (drop-drop (512 * k) 512 (a ++ r)))
      ∙ ap (λ (x : List ℕ). take 512 (drop (512 * k) x)) (drop_at a r 512 whole)

-- a block of a list's front is the list's
pub block-take : (l : List ℕ) (n j : ℕ) → n ≤ length l → 512 * j + 512 ≤ n → block (take n l) j ≡ block l j
block-take l n j h fits =
    let front : length (take n l) ≡ n = length-take-le n l h in
    let a : length (block (take n l) j) ≡ 512 = length-block (take n l) j (omega arith) in
    let b : length (block l j) ≡ 512 = length-block l j (omega arith) in
    ext_get_or 0 (block (take n l) j) (block l j) (a ∙ sym b)
    (λ i lt.
    get_or-block (take n l) j i (omega arith)
    ∙ get_or-take n l (512 * j + i) 0 (omega arith)
    ∙ sym (get_or-block l j i (omega arith)))

pub block-front : (a r : List ℕ) (j : ℕ) → 512 * j + 512 ≤ length a → block (a ++ r) j ≡ block a j
block-front a r j h =
    sym (block-take (a ++ r) (length a) j (omega (arith, length-append a r)) h)
    ∙ ap (λ (x : List ℕ). block x j) (take_at a r (length a) refl)
