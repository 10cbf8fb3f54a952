-- The length of a block that was handed out, and of its bytes 0..507; the rest of a slice, lent as a part of it.
use mathlib.Core.Path.{◌≡◌, ap, ◌∙◌}
use mathlib.Core.List.{List, ◌++◌, append-nil}
use Prim.Native.Nat.{ℕ, ◌+◌, ◌*◌, ◌≤◌}
use native.Mathlib.Omega.{arith}
use borrow.Rule.Slice.PartMut.{put_mid}
use lib.ListN.{length, take, drop, length-drop, drop_of_length-le}
use lib.Seq.{length-take-le, take_all, drop_at}
use Rattle.lists.specs.Block.{block}
use Rattle.lists.specs.BlockLaws.{length-block}

module _ (p s : List ℕ) (k : ℕ) (is : p ≡ block s k) (inside : 512 * k + 512 ≤ length s) where
  pub length-of-block : length p ≡ 512
  length-of-block = ap length is ∙ length-block s k inside

  pub length-of-body : length (take 508 p) ≡ 508
  length-of-body = length-take-le 508 p (omega (arith, length-of-block))

-- what the goals of holds.rt and plan.rt are given
pub ruleset lengths = (length-block)

module _ (s : List ℕ) (i n : ℕ) (whole : i + n ≡ length s) where
  -- as it was lent, and as it is given back
  pub rest-lent : take n (drop i s) ≡ drop i s
  rest-lent = take_all n (drop i s) (omega (arith, length-drop i s))

  pub rest_back : (l : List ℕ) → drop i (put_mid i n s l) ≡ l
  rest_back l =
      drop_at (take i s) (l ++ drop n (drop i s)) i (length-take-le i s (omega arith))
      ∙ ap (λ (x : List ℕ). l ++ x) (drop_of_length-le (drop i s) {i = n} (omega (arith, length-drop i s)))
      ∙ append-nil l
