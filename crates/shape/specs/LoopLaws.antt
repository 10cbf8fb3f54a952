-- Loops that test one element after the other: each turn takes one element off what is left to test.
use Rattle.std.specs.Prelude.{◌≡◌, refl, Bool, true, false, ◌&&◌, List, [], ◌∷◌, ◌++◌, ℕ, zero, suc, ◌+◌, ◌-◌, ◌≤◌, ◌<◌}
use Rattle.std.proofs.Common.{sym, ap₂, ◌∙◌, add-one}
use Rattle.std.proofs.Math.Path.{ap}
use native.Mathlib.Omega.{arith}
use Rattle.lists.specs.Lists.{all, bind, up_from}
use Rattle.endian.specs.Endian.{u16_at}
use Rattle.page.specs.declared.Entry.{Entry}
use Rattle.page.specs.Entries.{entry_at, entries_from, entries_of}
use Rattle.page.specs.EntriesLaws.{entries_from-cons}

-- a test that passes leaves the rest to be tested, one that fails decides
pub passed : (t x y : Bool) → x ≡ t && y → t ≡ true → y ≡ x
passed t x y e h = sym (e ∙ ap (λ (b : Bool). b && y) h)

pub failed : (t x y : Bool) → x ≡ t && y → t ≡ false → x ≡ false
failed t x y e h = e ∙ ap (λ (b : Bool). b && y) h

-- ---- the entries of a page from slot i on

abbrev pub rest : List ℕ → ℕ → List Entry
rest l i = entries_from l i (u16_at l 0 - i)

module _ (l : List ℕ) where
  pub rest-start : rest l 0 ≡ entries_of l
  unfolding entries_of
  rest-start = let e : u16_at l 0 - 0 ≡ u16_at l 0 = omega arith in ap (entries_from l 0) e

  pub rest-turn : (i : ℕ) → i < u16_at l 0 → rest l i ≡ entry_at l i ∷ rest l (i + 1)
  rest-turn i more = entries_from-cons l i (u16_at l 0) more

  pub rest-done : (i : ℕ) → u16_at l 0 ≤ i → rest l i ≡ []
  unfolding entries_from
  rest-done i past = let z : u16_at l 0 - i ≡ 0 = omega arith in ap (entries_from l i) z

-- ---- the numbers from i up to n

pub run-turn : (i n : ℕ) → i < n → up_from i (n - i) ≡ i ∷ up_from (i + 1) (n - (i + 1))
run-turn i n h =
    let m : n - i ≡ suc (n - (i + 1)) = omega arith in
    ap (up_from i) m ∙ ap (λ (j : ℕ). i ∷ up_from j (n - (i + 1))) (sym (add-one i))

pub run-done : (i n : ℕ) → n ≤ i → up_from i (n - i) ≡ []
run-done i n h = let z : n - i ≡ 0 = omega arith in ap (up_from i) z

-- the first k of them, and the rest
pub run-split : (i k n : ℕ) → k ≤ n → up_from i n ≡ up_from i k ++ up_from (i + k) (n - k)
run-split i zero n h =
    let e : i ≡ i + 0 = omega arith in
    let m : n ≡ n - 0 = omega arith in
    ap₂ up_from e m
run-split i (suc k) zero h = absurd (omega arith)
run-split i (suc k) (suc n) h =
    let e : suc i + k ≡ i + suc k = omega arith in
    let m : n - k ≡ suc n - suc k = omega arith in
    ap (λ (ns : List ℕ). i ∷ ns)
    (run-split (suc i) k n (omega arith) ∙ ap₂ (λ (j l : ℕ). up_from (suc i) k ++ up_from j l) e m)

-- two tests that agree on them
pub run-same : (t u : ℕ → Bool) (i n : ℕ) → ((k : ℕ) → i ≤ k → t k ≡ u k) → all t (up_from i n) ≡ all u (up_from i n)
run-same t u i zero h = refl
run-same t u i (suc n) h = ap₂ ◌&&◌ (h i (omega arith)) (run-same t u (suc i) n (λ k l. h k (omega arith)))

-- what is left to test of them
abbrev pub left : (ℕ → Bool) → (n i : ℕ) → Bool
left t n i = all t (up_from i (n - i))

module _ (t : ℕ → Bool) (n : ℕ) where
  pub left-start : left t n 0 ≡ all t (up_from 0 n)
  left-start = let e : n - 0 ≡ n = omega arith in ap (λ (m : ℕ). all t (up_from 0 m)) e

  pub left-turn : (i : ℕ) → i < n → left t n i ≡ t i && left t n (i + 1)
  left-turn i h = ap (all t) (run-turn i n h)

  pub left-done : (i : ℕ) → n ≤ i → left t n i ≡ true
  left-done i h = ap (all t) (run-done i n h)

-- ---- tests of joined lists, and joined tests

module _ {A : Type 0} (t : A → Bool) where
  pub all_join : (xs ys : List A) → all t (xs ++ ys) ≡ all t xs && all t ys
  all_join [] ys = refl
  all_join (x ∷ xs) ys = go (t x) (all_join xs ys)
    where
      go : (b : Bool) → all t (xs ++ ys) ≡ all t xs && all t ys → b && all t (xs ++ ys) ≡ (b && all t xs) && all t ys
      go true ih = ih
      go false ih = refl

  pub all-bind : {B : Type 0} (f : B → List A) (xs : List B) → all t (bind xs f) ≡ all (λ x. all t (f x)) xs
  all-bind f [] = refl
  all-bind f (x ∷ xs) = all_join (f x) (bind xs f) ∙ ap (λ (b : Bool). all t (f x) && b) (all-bind f xs)

  pub all_both : (u : A → Bool) (xs : List A) → all t xs && all u xs ≡ all (λ x. t x && u x) xs
  all_both u [] = refl
  all_both u (x ∷ xs) = swap (t x) (all t xs) (u x) (all u xs) ∙ ap (λ (b : Bool). (t x && u x) && b) (all_both u xs)
    where
      swap : (a b c d : Bool) → (a && b) && (c && d) ≡ (a && c) && (b && d)
      swap false b c d = refl
      swap true true c d = refl
      swap true false true d = refl
      swap true false false d = refl
