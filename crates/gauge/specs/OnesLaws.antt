-- The count of the bits that are 1, bit by bit.
use Rattle.std.specs.Prelude.{◌≡◌, refl, Bool, List, ◌++◌, ℕ, zero, suc, ◌+◌, ◌-◌, ◌≤◌, ◌<◌, eqb}
use Rattle.std.proofs.Common.{sym, ap, ap₂, ◌∙◌, add-one, arith}
use Rattle.lists.specs.Lists.{b2n, tally, up_from}
use Rattle.lists.specs.ListsLaws.{tally-append}
use Rattle.image.specs.Decode.{bit_of}
use Rattle.shape.specs.LoopLaws.{run-split}
use Rattle.gauge.specs.Ones.{ones_in}

-- of a number below 2: what the test for 1 counts
bit-counted : (b : ℕ) → b < 2 → b2n (eqb b 1) ≡ b
bit-counted zero h = refl
bit-counted (suc zero) h = refl
bit-counted (suc (suc b)) h = absurd (omega arith)

module _ (l : List ℕ) where
  pub ones-start : ones_in l 0 ≡ 0
  unfolding ones_in
  ones-start = refl

  -- one bit more
  pub ones-turn : (n : ℕ) → ones_in l (n + 1) ≡ ones_in l n + bit_of l n
  unfolding ones_in
  ones-turn n =
      let t : ℕ → Bool = λ k. eqb (bit_of l k) 1 in
      let i : 0 + n ≡ n = omega arith in
      let e : n + 1 - n ≡ 1 = omega arith in
      ap (tally t) (run-split 0 n (n + 1) (omega arith) ∙ ap₂ (λ (j k : ℕ). up_from 0 n ++ up_from j k) i e)
      ∙ tally-append t (up_from 0 n) (up_from n 1)
      ∙ omega (arith, bit-counted (bit_of l n) (omega arith))

  -- no more than the bits
  pub ones-le : (n : ℕ) → ones_in l n ≤ n
  ones-le zero = omega (arith, ones-start)
  ones-le (suc n) =
      let e : ones_in l (suc n) ≡ ones_in l (n + 1) = ap (ones_in l) (sym (add-one n)) in
      omega (arith, ones-le n, ones-turn n)
