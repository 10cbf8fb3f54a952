-- Zeros that are written and tested, one byte at a time.
use Rattle.std.specs.Prelude.{◌≡◌, Bool, true, false, ◌&&◌, length, take, set, replicate}
use Rattle.std.proofs.Common.{sym, ◌∙◌, add-one, eq-eqb, ne_eqb, length-drop, drop-cons, take_all}
use Rattle.std.proofs.Math.Path.{ap, ap₂}
use mathlib.Core.List.{List, ◌∷◌, ◌++◌}
use Prim.Native.Nat.{ℕ, suc, ◌+◌, ◌-◌, ◌≤◌, ◌<◌}
use native.Mathlib.Omega.{arith}
use Rattle.std.proofs.Math.Dec.{eqb}
use Rattle.std.proofs.Math.ListN.{get_or, drop}
use Rattle.std.proofs.lemmas.List.{length-replicate}
use Rattle.std.proofs.lemmas.List.Edits.{sets, sets-eq}
use Rattle.lists.specs.Lists.{all}
use Rattle.lists.specs.Bytes.{part, all_zero}

-- ---- zeros from the first byte on

pub zeros-front : (l : List ℕ) (n : ℕ) → n ≤ length l → sets l 0 (replicate n 0) ≡ replicate n 0 ++ drop n l
zeros-front l n h =
    let zs : List ℕ = replicate n 0 in
    let e : 0 + length zs ≡ n = omega (arith, length-replicate {A = ℕ} n 0) in
    sets-eq zs l 0 (omega arith) ∙ ap (λ (k : ℕ). zs ++ drop k l) e

-- ---- zeros from i up to e

module _ (l : List ℕ) (i e : ℕ) where
  -- written
  pub zeros-turn : i < e → sets l i (replicate (e - i) 0) ≡ sets (set l i 0) (i + 1) (replicate (e - (i + 1)) 0)
  zeros-turn h =
      let m : e - i ≡ suc (e - (i + 1)) = omega arith in
      ap (λ (n : ℕ). sets l i (replicate n 0)) m
      ∙ ap (λ (k : ℕ). sets (set l i 0) k (replicate (e - (i + 1)) 0)) (sym (add-one i))

  pub zeros-end : e ≤ i → sets l i (replicate (e - i) 0) ≡ l
  zeros-end h = let z : e - i ≡ 0 = omega arith in ap (λ (n : ℕ). sets l i (replicate n 0)) z

  -- tested
  turn : i < e → e ≤ length l → all_zero (part i e l) ≡ eqb (get_or l i 0) 0 && all_zero (part (i + 1) e l)
  unfolding all_zero part
  turn h k =
      let m : e - i ≡ suc (e - (i + 1)) = omega arith in
      let rest = ap (λ (n : ℕ). get_or l i 0 ∷ drop n l) (sym (add-one i)) in
      ap₂ (λ (n : ℕ) (x : List ℕ). all (λ y. eqb y 0) (take n x)) m (drop-cons l i 0 (omega arith) ∙ rest)

  pub zero-here : i < e → e ≤ length l → get_or l i 0 ≡ 0 → all_zero (part i e l) ≡ all_zero (part (i + 1) e l)
  zero-here h k z = turn h k ∙ ap (λ (b : Bool). b && all_zero (part (i + 1) e l)) (eq-eqb (get_or l i 0) 0 z)

  pub other-here : i < e → e ≤ length l → (get_or l i 0 ≡ 0 → ⊥) → all_zero (part i e l) ≡ false
  other-here h k n = turn h k ∙ ap (λ (b : Bool). b && all_zero (part (i + 1) e l)) (ne_eqb (get_or l i 0) 0 n)

  pub none_here : e ≤ i → all_zero (part i e l) ≡ true
  unfolding all_zero part
  none_here h = let z : e - i ≡ 0 = omega arith in ap (λ (n : ℕ). all (λ y. eqb y 0) (take n (drop i l))) z

-- the bytes from i on
pub part-rest : (l : List ℕ) (i e : ℕ) → length l ≤ e → part i e l ≡ drop i l
unfolding part
part-rest l i e h = take_all (e - i) (drop i l) (omega (arith, length-drop i l))
