-- Rule 6, bit by bit and part by part.
use mathlib.Core.Path.{◌≡◌, refl, ap, ◌∙◌}
use mathlib.Core.Bool.{Bool, true, false, not, ◌&&◌, beq}
use mathlib.Core.List.{List, ◌++◌}
use Prim.Native.Nat.{ℕ, zero, suc, ◌+◌, ◌-◌, ◌≤◌, ◌<◌}
use native.Mathlib.Omega.{arith}
use borrow.Author.Tests.{lt-ltb, le-ltb}
use lib.Dec.{eqb, ltb}
use Rattle.lists.specs.Lists.{b2n, all, up_from}
use Rattle.address.specs.Address.{bit_block}
use Rattle.image.specs.Decode.{point_at, spares_at}
use Rattle.image.specs.Rules.{is_overflow, map_at, bit_at, top_at, free_at, bit_ok}
use Rattle.chain.specs.Bitmap.{ones_from}
use Rattle.shape.specs.LoopLaws.{run-split, run-same, all_join}

-- a bit is 0 exactly if it is free
bit-clear : (x : ℕ) (f : Bool) → x < 2 → beq (eqb x 0) f ≡ eqb x (b2n (not f))
bit-clear zero true h = refl
bit-clear zero false h = refl
bit-clear (suc zero) true h = refl
bit-clear (suc zero) false h = refl
bit-clear (suc (suc x)) f h = absurd (omega arith)

module _ (s : List ℕ) (n : ℕ) where
  pub bit-right : (x : ℕ) (f : Bool) → x ≡ bit_at s n → f ≡ free_at s n → beq (eqb x 0) f ≡ bit_ok s n
  bit-right x f e g =
      let small : bit_at s n < 2 = omega arith in
      (λ i. beq (eqb (e i) 0) (g i)) ∙ bit-clear (bit_at s n) (free_at s n) small

  pub free-first : n ≡ 0 → free_at s n ≡ false
  free-first e = rw (le-ltb 0 n (omega arith))

  pub free-past : top_at s ≤ n → free_at s n ≡ false
  free-past h = go (ltb 0 n)
    where
      go : (b : Bool) → b && (ltb n (top_at s) && not (is_overflow s (bit_block (spares_at s) (point_at s) n))) ≡ false
      go true = rw (le-ltb n (top_at s) h)
      go false = refl

  pub free-made : (n ≡ 0 → ⊥) → n < top_at s → free_at s n ≡ not (is_overflow s (bit_block (spares_at s) (point_at s) n))
  free-made e h = rw (lt-ltb 0 n (omega arith), lt-ltb n (top_at s) h)

-- no bit past the made ones is free, so those are all to be 1
pub map-split : (s : List ℕ) → top_at s ≤ 2048
    → all (bit_ok s) (up_from 0 2048) ≡ all (bit_ok s) (up_from 0 (top_at s)) && ones_from (map_at s) (top_at s)
unfolding ones_from
map-split s h =
    let top = top_at s in
    let e : 0 + top ≡ top = omega arith in
    ap (all (bit_ok s)) (run-split 0 top 2048 h ∙ ap (λ (i : ℕ). up_from 0 top ++ up_from i (2048 - top)) e)
    ∙ all_join (bit_ok s) (up_from 0 top) (up_from top (2048 - top))
    ∙ ap (λ (b : Bool). all (bit_ok s) (up_from 0 top) && b)
    (run-same (bit_ok s) (λ n. eqb (bit_at s n) 1) top (2048 - top)
    (λ n l. ap (λ (b : Bool). eqb (bit_at s n) (b2n (not b))) (free-past s n l)))
