-- The page rule from a slot on: a turn of each loop takes one byte or one slot off what is left to test.
use mathlib.Core.Path.{◌≡◌, refl, sym, ap, ap₂, ◌∙◌}
use mathlib.Core.Bool.{Bool, true, false, not, ◌&&◌}
use mathlib.Core.List.{List, ◌∷◌}
use Prim.Native.Nat.{ℕ, zero, suc, ◌+◌, ◌-◌, ◌≤◌, ◌<◌}
use native.Mathlib.Numerals.{add-one}
use native.Mathlib.Omega.{arith}
use Rattle.lists.specs.Lists.{all, up_from}
use Rattle.endian.specs.Endian.{u16_at}
use Rattle.page.specs.declared.Entry.{Entry}
use Rattle.page.specs.Pair.{before, bad_pair, pair_of, ascending}
use Rattle.page.specs.Entries.{entry_at, entries_from, entries_of}
use Rattle.page.specs.EntriesLaws.{entries_from-cons}
use Rattle.page.specs.Rule.{flags_ok, numbers_ok, order_ok}

-- a part that passes leaves the rest to be tested, one that does not decides
pub passed : (t x y : Bool) → x ≡ t && y → t ≡ true → y ≡ x
passed t x y e h = sym (e ∙ ap (λ (b : Bool). b && y) h)

pub failed : (t x y : Bool) → x ≡ t && y → t ≡ false → x ≡ false
failed t x y e h = e ∙ ap (λ (b : Bool). b && y) h

-- ---- numbers

abbrev number_fine : Entry → Bool
number_fine e = not (bad_pair e.pair)

-- the numbers and flags of the entries from slot k up to slot n
pub numbers_from : List ℕ → ℕ → ℕ → Bool
numbers_from l n k = all number_fine (entries_from l k (n - k)) && all (flags_ok l) (up_from k (n - k))

pub numbers-start : (l : List ℕ) (n : ℕ) → n ≡ u16_at l 0 → numbers_from l n 0 ≡ numbers_ok l
unfolding numbers_from numbers_ok entries_of
numbers-start l n e =
    let z : n - 0 ≡ u16_at l 0 = omega arith in
    ap (λ (m : ℕ). all number_fine (entries_from l 0 m) && all (flags_ok l) (up_from 0 m)) z

pub numbers-turn : (l : List ℕ) (n k : ℕ) → k < n
    → numbers_from l n k ≡ (number_fine (entry_at l k) && flags_ok l k) && numbers_from l n (k + 1)
unfolding numbers_from
numbers-turn l n k h =
    let m : n - k ≡ suc (n - (k + 1)) = omega arith in
    let run : up_from k (n - k) ≡ k ∷ up_from (k + 1) (n - (k + 1)) =
    ap (up_from k) m ∙ ap (λ (j : ℕ). k ∷ up_from j (n - (k + 1))) (sym (add-one k)) in
    ap₂ (λ (es : List Entry) (ks : List ℕ). all number_fine es && all (flags_ok l) ks) (entries_from-cons l k n h) run
    ∙ swap (number_fine (entry_at l k)) _ (flags_ok l k) _
  where
    swap : (a b c d : Bool) → (a && b) && (c && d) ≡ (a && c) && (b && d)
    swap false b c d = refl
    swap true true c d = refl
    swap true false true d = refl
    swap true false false d = refl

pub numbers-end : (l : List ℕ) (n k : ℕ) → n ≤ k → numbers_from l n k ≡ true
unfolding numbers_from entries_from
numbers-end l n k h =
    let z : n - k ≡ 0 = omega arith in
    ap (λ (m : ℕ). all number_fine (entries_from l k m) && all (flags_ok l) (up_from k m)) z

-- ---- order

-- the entries from slot k up to slot n ascend
pub order_from : List ℕ → ℕ → ℕ → Bool
order_from l n k = ascending pair_of (entries_from l k (n - k))

pub order-start : (l : List ℕ) (n : ℕ) → n ≡ u16_at l 0 → order_from l n 0 ≡ order_ok l
unfolding order_from order_ok entries_of
order-start l n e =
    let z : n - 0 ≡ u16_at l 0 = omega arith in
    ap (λ (m : ℕ). ascending pair_of (entries_from l 0 m)) z

pub order-turn : (l : List ℕ) (n k : ℕ) → 1 ≤ k → k < n
    → order_from l n (k - 1) ≡ before (entry_at l (k - 1)).pair (entry_at l k).pair && order_from l n k
unfolding order_from
order-turn l n k pos h =
    let back : k - 1 + 1 ≡ k = omega arith in
    let first = entries_from-cons l (k - 1) n (omega arith)
    ∙ ap (λ (j : ℕ). entry_at l (k - 1) ∷ entries_from l j (n - j)) back in
    let next = entries_from-cons l k n h in
    ap (ascending pair_of) (first ∙ ap (λ (x : List Entry). entry_at l (k - 1) ∷ x) next)
    ∙ ap (λ (x : List Entry). before (entry_at l (k - 1)).pair (entry_at l k).pair && ascending pair_of x) (sym next)

pub order-end : (l : List ℕ) (n k : ℕ) → n ≤ k + 1 → order_from l n k ≡ true
unfolding order_from entries_from
order-end l n k h = go (n - k) (omega arith)
  where
    go : (m : ℕ) → m ≤ 1 → ascending pair_of (entries_from l k m) ≡ true
    go zero h = refl
    go (suc zero) h = refl
    go (suc (suc m)) h = absurd (omega arith)
