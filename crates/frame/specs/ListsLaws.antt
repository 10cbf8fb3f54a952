-- What `find` and `first_place` give of two lists, one after the other, and `find` of lists that differ at their heads;
-- an element of a mapped list.
use Rattle.std.specs.Prelude.{◌≡◌, refl, Bool, true, false, cond, ◌||◌, List, [], ◌∷◌, ◌++◌, map, ℕ, zero, suc, ◌+◌, ◌≤◌, ◌<◌, length, get_or}
use Rattle.std.proofs.Common.{sym, ap, ap₂, ◌∙◌, arith}
use Rattle.std.proofs.Math.Option.{Option, none, some}
use Rattle.std.proofs.Math.ListN.{get_or-append}
use Rattle.lists.specs.Lists.{b2n, any, tally, find}
use Rattle.frame.specs.Frame.{first_place}

module _ {A : Type 0} (t : A → Bool) where
  abbrev or_else : Option A → Option A → Option A
  or_else (some a) o = some a
  or_else none o = o

  find-split : (xs ys : List A) → find t (xs ++ ys) ≡ or_else (find t xs) (find t ys)
  find-split [] ys = refl
  find-split (x ∷ xs) ys = go (t x) (find-split xs ys)
    where
      go : (b : Bool) → find t (xs ++ ys) ≡ or_else (find t xs) (find t ys)
          → elim b as (λ _. Option A) [ true ↦ some x | false ↦ find t (xs ++ ys) ]
          ≡ or_else (elim b as (λ _. Option A) [ true ↦ some x | false ↦ find t xs ]) (find t ys)
      go true ih = refl
      go false ih = ih

  pub find-zero : (xs : List A) → tally t xs ≡ 0 → find t xs ≡ none
  find-zero [] z = refl
  find-zero (x ∷ xs) z = go (t x) (omega arith) (find-zero xs)
    where
      go : (b : Bool) → b2n b + tally t xs ≡ 0 → (tally t xs ≡ 0 → find t xs ≡ none)
          → Path (Option A) (elim b [ true ↦ some x | false ↦ find t xs ]) none
      go true z ih = absurd (omega arith)
      go false z ih = ih (omega arith)

  pub find-left : (xs ys : List A) (y : A) → find t xs ≡ some y → find t (xs ++ ys) ≡ some y
  find-left xs ys y e = find-split xs ys ∙ ap (λ (o : Option A). or_else o (find t ys)) e

  pub find-right : (xs ys : List A) → find t xs ≡ none → find t (xs ++ ys) ≡ find t ys
  find-right xs ys e = find-split xs ys ∙ ap (λ (o : Option A). or_else o (find t ys)) e

  -- two lists of the same parts
  pub find-append : (xs xs' ys ys' : List A) → find t xs ≡ find t xs' → find t ys ≡ find t ys'
      → find t (xs ++ ys) ≡ find t (xs' ++ ys')
  find-append xs xs' ys ys' p q = find-split xs ys ∙ ap₂ or_else p q ∙ sym (find-split xs' ys')

  pub find-hit : (x : A) (xs : List A) → t x ≡ true → find t (x ∷ xs) ≡ some x
  find-hit x xs p = go (t x) p
    where
      go : (b : Bool) → b ≡ true → Path (Option A) (elim b [ true ↦ some x | false ↦ find t xs ]) (some x)
      go b p = rw p

  pub find-pass : (x : A) (xs : List A) → t x ≡ false → find t (x ∷ xs) ≡ find t xs
  find-pass x xs p = go (t x) p
    where
      go : (b : Bool) → b ≡ false → Path (Option A) (elim b [ true ↦ some x | false ↦ find t xs ]) (find t xs)
      go b p = rw p

  -- lists that begin alike, and lists whose first elements both fail
  pub find-cons : (x : A) (xs ys : List A) → find t xs ≡ find t ys → find t (x ∷ xs) ≡ find t (x ∷ ys)
  find-cons x xs ys q = find-append (x ∷ []) (x ∷ []) xs ys refl q

  pub find-skip : (x y : A) (xs ys : List A) → t x ≡ false → t y ≡ false → find t xs ≡ find t ys
      → find t (x ∷ xs) ≡ find t (y ∷ ys)
  find-skip x y xs ys p q r = find-pass x xs p ∙ r ∙ sym (find-pass y ys q)

module _ {A : Type 0} (t : A → Bool) where
  -- in the first list, or past it
  pub place-left : (xs ys : List A) → any t xs ≡ true → first_place t (xs ++ ys) ≡ first_place t xs
  place-left [] ys h = let z : ◌≡◌ {A = ℕ} 0 1 = cc in absurd (omega arith)
  place-left (x ∷ xs) ys h = go (t x) h (place-left xs ys)
    where
      go : (b : Bool) → b || any t xs ≡ true → (any t xs ≡ true → first_place t (xs ++ ys) ≡ first_place t xs)
          → cond b 0 (suc (first_place t (xs ++ ys))) ≡ cond b 0 (suc (first_place t xs))
      go true h ih = refl
      go false h ih = ap suc (ih h)

  pub place-right : (xs ys : List A) → tally t xs ≡ 0 → first_place t (xs ++ ys) ≡ length xs + first_place t ys
  place-right [] ys z = omega arith
  place-right (x ∷ xs) ys z = go (t x) z (place-right xs ys)
    where
      go : (b : Bool) → b2n b + tally t xs ≡ 0
          → (tally t xs ≡ 0 → first_place t (xs ++ ys) ≡ length xs + first_place t ys)
          → cond b 0 (suc (first_place t (xs ++ ys))) ≡ suc (length xs) + first_place t ys
      go true z ih = absurd (omega arith)
      go false z ih = omega (arith, ih (omega arith))

  -- not before the first list's
  pub place-later : (xs ys : List A) → first_place t xs ≤ first_place t (xs ++ ys)
  place-later [] ys = omega arith
  place-later (x ∷ xs) ys = go (t x) (place-later xs ys)
    where
      go : (b : Bool) → first_place t xs ≤ first_place t (xs ++ ys)
          → cond b 0 (suc (first_place t xs)) ≤ cond b 0 (suc (first_place t (xs ++ ys)))
      go true ih = omega arith
      go false ih = omega (arith, ih)

pub get_d_map : {A B : Type 0} (f : A → B) (xs : List A) (i : ℕ) (d : A) (e : B) → i < length xs
    → get_or (map f xs) i e ≡ f (get_or xs i d)
get_d_map f [] i d e h = absurd (omega arith)
get_d_map f (x ∷ xs) zero d e h = refl
get_d_map f (x ∷ xs) (suc i) d e h = get_d_map f xs i d e (omega arith)

-- a list with an element taken out
pub get_or-out : {A : Type 0} (us vs : List A) (a d : A) (i : ℕ) → length us ≤ i
    → get_or (us ++ vs) i d ≡ get_or (us ++ a ∷ vs) (suc i) d
get_or-out [] vs a d i h = refl
get_or-out (u ∷ us) vs a d zero h = absurd (omega arith)
get_or-out (u ∷ us) vs a d (suc i) h = get_or-out us vs a d i (omega arith)

pub get_or-in : {A : Type 0} (us vs ws : List A) (d : A) (i : ℕ) → i < length us
    → get_or (us ++ vs) i d ≡ get_or (us ++ ws) i d
get_or-in us vs ws d i h = get_or-append us vs d i h ∙ sym (get_or-append us ws d i h)
