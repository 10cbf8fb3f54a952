-- Tests that every element passes or fails, and runs of values.
use Rattle.std.specs.Prelude.{◌≡◌, refl, Bool, true, false, cond, not, ◌&&◌, List, [], ◌∷◌, ◌++◌, map, ℕ, zero, suc, ◌+◌, ◌≤◌, ◌<◌, length, get_or}
use Rattle.std.proofs.Common.{sym, ap, ap₂, ◌∙◌, arith}
use Rattle.std.proofs.Math.Option.{Option, none, some}
use Rattle.lists.specs.Lists.{b2n, all, tally, find, bind, Each, up_from}
use Rattle.lists.specs.ListsLaws.{and_left, and_right}
use Rattle.lists.specs.RunLaws.{all-get}

-- ---- Booleans

pub cond_yes : (c a b : Bool) → c ≡ true → cond c a b ≡ true → a ≡ true
cond_yes c a b e h = sym (ap (λ (d : Bool). cond d a b) e) ∙ h

pub cond_no : (c a b : Bool) → c ≡ false → cond c a b ≡ true → b ≡ true
cond_no c a b e h = sym (ap (λ (d : Bool). cond d a b) e) ∙ h

pub cond-put : (c a b : Bool) → (c ≡ true → a ≡ true) → (c ≡ false → b ≡ true) → cond c a b ≡ true
cond-put true a b f g = f refl
cond-put false a b f g = g refl

-- ---- runs

-- two runs of values that agree place by place
pub map-run : {A : Type 0} (f g : ℕ → A) (i j n : ℕ) → ((k : ℕ) → k < n → f (i + k) ≡ g (j + k))
    → map f (up_from i n) ≡ map g (up_from j n)
map-run f g i j zero h = refl
map-run f g i j (suc n) h =
    let a : i ≡ i + 0 = omega arith in
    let b : j + 0 ≡ j = omega arith in
    ap₂ (λ x xs. x ∷ xs) (ap f a ∙ h 0 (omega arith) ∙ ap g b)
    (map-run f g (suc i) (suc j) n (λ k l.
    let c : suc i + k ≡ i + suc k = omega arith in
    let d : j + suc k ≡ suc j + k = omega arith in
    ap f c ∙ h (suc k) (omega arith) ∙ ap g d))

-- ---- tests

module _ {A : Type 0} where
  -- a test that every element passes, and one that only failing elements pass
  pub all_none : (t s : A → Bool) (xs : List A) → all t xs ≡ true → ((x : A) → s x ≡ true → t x ≡ false)
      → tally s xs ≡ 0
  all_none t s [] h f = refl
  all_none t s (x ∷ xs) h f = go (s x) refl (all_none t s xs (and_right (t x) (all t xs) h) f)
    where
      go : (b : Bool) → s x ≡ b → tally s xs ≡ 0 → b2n b + tally s xs ≡ 0
      go false e ih = omega arith
      go true e ih =
          let k : t x ≡ true = and_left (t x) (all t xs) h in
          let l : t x ≡ false = f x e in
          let z : ◌≡◌ {A = ℕ} 0 1 = cc in
          omega arith

  -- a test that holds of the first element that fails it fails nowhere
  pub none-fails : (t : A → Bool) (xs : List A) → ((x : A) → find (λ y. not (t y)) xs ≡ some x → t x ≡ true)
      → all t xs ≡ true
  none-fails t [] h = refl
  none-fails t (x ∷ xs) h = go (t x) refl h (none-fails t xs)
    where
      go : (b : Bool) → t x ≡ b
          → ((y : A) → Path (Option A) (elim (not b) [ true ↦ some x | false ↦ find (λ y. not (t y)) xs ]) (some y)
          → t y ≡ true)
          → (((y : A) → find (λ y. not (t y)) xs ≡ some y → t y ≡ true) → all t xs ≡ true)
          → b && all t xs ≡ true
      go true e h ih = ih h
      go false e h ih = let z : ◌≡◌ {A = ℕ} 0 1 = cc (h x refl) in absurd (omega arith)

  pub zero-each : (t : A → Bool) (xs : List A) → tally t xs ≡ 0 → Each (λ y. t y ≡ false) xs
  zero-each t [] z = tt
  zero-each t (x ∷ xs) z = (go (t x) (omega arith), zero-each t xs (omega arith))
    where
      go : (b : Bool) → b2n b ≡ 0 → b ≡ false
      go true e = absurd (omega arith)
      go false e = refl

  pub each_left : (P : A → Type 0) (xs ys : List A) → Each P (xs ++ ys) → Each P xs
  each_left P [] ys h = tt
  each_left P (x ∷ xs) ys h = (h.0, each_left P xs ys h.1)

  pub each_right : (P : A → Type 0) (xs ys : List A) → Each P (xs ++ ys) → Each P ys
  each_right P [] ys h = h
  each_right P (x ∷ xs) ys h = each_right P xs ys h.1

  pub each_all : (P : A → Type 0) (d : A) (xs : List A) → ((i : ℕ) → i < length xs → P (get_or xs i d)) → Each P xs
  each_all P d [] h = tt
  each_all P d (x ∷ xs) h = (h 0 (omega arith), each_all P d xs (λ i l. h (suc i) (omega arith)))

-- where no failure is found, every number of the run passes
pub find_none : (t : ℕ → Bool) (i n : ℕ) → find (λ k. not (t k)) (up_from i n) ≡ none → (k : ℕ) → i ≤ k → k < i + n
    → t k ≡ true
find_none t i n h =
    all-get t i n (none-fails t (up_from i n) (λ x e. let z : ◌≡◌ {A = ℕ} 0 1 = cc in absurd (omega arith)))

pub bind-cong : {A B : Type 0} (f g : A → List B) (xs : List A) → ((x : A) → f x ≡ g x) → bind xs f ≡ bind xs g
bind-cong f g [] h = refl
bind-cong f g (x ∷ xs) h = ap₂ (λ u v. u ++ v) (h x) (bind-cong f g xs h)
