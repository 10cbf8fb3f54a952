-- The 512 bytes from 512 * k on, lent as a part of a slice, are a block.
use mathlib.Core.Path.{◌≡◌, ap, ◌∙◌}
use mathlib.Core.List.{List, ◌++◌}
use Prim.Native.Nat.{ℕ, ◌+◌, ◌-◌, ◌*◌, ◌≤◌}
use native.Mathlib.Omega.{arith}
use borrow.Rule.Slice.PartMut.{put_mid}
use lib.ListN.{length, take, drop}
use lib.Seq.{drop-drop}
use Rattle.lists.specs.Block.{block, set_block}
use Rattle.lists.specs.BlockLaws.{length-block}

pub width : (k : ℕ) → 512 * k + 512 - 512 * k ≡ 512
width k = omega arith

pub part-block : (s : List ℕ) (k : ℕ) → take (512 * k + 512 - 512 * k) (drop (512 * k) s) ≡ block s k
unfolding block
part-block s k = ap (λ (n : ℕ). take n (drop (512 * k) s)) (width k)

pub put-block : (s : List ℕ) (k : ℕ) (b : List ℕ) → put_mid (512 * k) (512 * k + 512 - 512 * k) s b ≡ set_block s k b
unfolding set_block
put-block s k b =
    ap (λ (n : ℕ). take (512 * k) s ++ (b ++ drop n (drop (512 * k) s))) (width k)
    ∙ ap (λ (r : List ℕ). take (512 * k) s ++ (b ++ r)) (drop-drop 512 (512 * k) s)

pub length-of-block : (p s : List ℕ) (k : ℕ) → p ≡ block s k → 512 * k + 512 ≤ length s → length p ≡ 512
length-of-block p s k e h = ap length e ∙ length-block s k h
