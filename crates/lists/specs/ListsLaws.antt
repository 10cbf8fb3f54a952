-- How the list functions with tests bear on each other: everything is counted by `tally`.
use Rattle.std.specs.Prelude.{◌≡◌, refl, ◌≢◌, Bool, true, false, cond, not, ◌&&◌, ◌||◌, List, [], ◌∷◌, ◌++◌, map, ℕ, ◌+◌, ◌≤◌, eqb, T, length}
use Rattle.std.proofs.Common.{sym, ap, subst, ◌∙◌, append_assoc, arith, eqb→eq}
use Rattle.std.proofs.Math.Option.{Option, none, some}
use Rattle.std.proofs.Math.Dec.{eqb_refl}
use Rattle.lists.specs.Lists.{b2n, any, all, tally, keep, find, bind, Each}

-- ---- Booleans

pub and_left : (a b : Bool) → a && b ≡ true → a ≡ true
and_left true b h = refl
and_left false b h = h

pub and_right : (a b : Bool) → a && b ≡ true → b ≡ true
and_right true b h = h
and_right false b h = let z : ◌≡◌ {A = ℕ} 0 1 = cc in absurd (omega arith)

pub and_both : (a b : Bool) → a ≡ true → b ≡ true → a && b ≡ true
and_both a b h k = rw (h, k)

pub and-false : (a : Bool) → a && false ≡ false
and-false true = refl
and-false false = refl

pub not_yes : (b : Bool) → not b ≡ true → b ≡ false
not_yes true h = sym h
not_yes false h = refl

pub eqb_yes : (a b : ℕ) → a ≡ b → eqb a b ≡ true
eqb_yes a b e = rw e (go (eqb b b) (eqb_refl b))
  where
    go : (c : Bool) → T c → c ≡ true
    go true t = refl
    go false t = absurd t

pub eqb_no : (a b : ℕ) → a ≢ b → eqb a b ≡ false
eqb_no a b ne = go (eqb a b) refl
  where
    go : (c : Bool) → eqb a b ≡ c → eqb a b ≡ false
    go false e = e
    go true e = absurd (ne (eqb→eq a b (rw e tt)))

pub eqb-eq : (a b : ℕ) → eqb a b ≡ true → a ≡ b
eqb-eq a b e = eqb→eq a b (rw e tt)

-- ---- tally

module _ {A : Type 0} where
  pub tally-append : (t : A → Bool) (xs ys : List A) → tally t (xs ++ ys) ≡ tally t xs + tally t ys
  tally-append t [] ys = omega arith
  tally-append t (x ∷ xs) ys = omega (arith, tally-append t xs ys)

  pub tally-keep : (t f : A → Bool) (xs : List A) → tally t (keep f xs) ≡ tally (λ x. f x && t x) xs
  tally-keep t f [] = refl
  tally-keep t f (x ∷ xs) = go (f x) (tally-keep t f xs)
    where
      go : (b : Bool) → tally t (keep f xs) ≡ tally (λ y. f y && t y) xs
          → tally t (cond b (x ∷ keep f xs) (keep f xs)) ≡ b2n (b && t x) + tally (λ y. f y && t y) xs
      go true ih = omega arith
      go false ih = omega arith

  pub tally-cong : (s t : A → Bool) (xs : List A) → ((x : A) → s x ≡ t x) → tally s xs ≡ tally t xs
  tally-cong s t [] h = refl
  tally-cong s t (x ∷ xs) h = omega (arith, ap b2n (h x), tally-cong s t xs h)

  -- a stronger test counts no more
  pub tally-le : (s t : A → Bool) (xs : List A) → ((x : A) → s x ≡ true → t x ≡ true) → tally s xs ≤ tally t xs
  tally-le s t [] h = omega arith
  tally-le s t (x ∷ xs) h = go (s x) refl (tally-le s t xs h)
    where
      go : (b : Bool) → s x ≡ b → tally s xs ≤ tally t xs → b2n b + tally s xs ≤ b2n (t x) + tally t xs
      go true e ih = omega (arith, ap b2n (h x e))
      go false e ih = omega arith

  pub tally-none : (t : A → Bool) (xs : List A) → length xs ≤ 0 → tally t xs ≡ 0
  tally-none t [] h = refl
  tally-none t (x ∷ xs) h = absurd (omega arith)

  pub keep_append : (t : A → Bool) (xs ys : List A) → keep t (xs ++ ys) ≡ keep t xs ++ keep t ys
  keep_append t [] ys = refl
  keep_append t (x ∷ xs) ys = go (t x) (keep_append t xs ys)
    where
      go : (b : Bool) → keep t (xs ++ ys) ≡ keep t xs ++ keep t ys
          → cond b (x ∷ keep t (xs ++ ys)) (keep t (xs ++ ys)) ≡ cond b (x ∷ keep t xs) (keep t xs) ++ keep t ys
      go true ih = ap (λ (l : List A). x ∷ l) ih
      go false ih = ih

  pub length-keep : (t : A → Bool) (xs : List A) → length (keep t xs) ≡ tally t xs
  length-keep t [] = refl
  length-keep t (x ∷ xs) = go (t x) (length-keep t xs)
    where
      go : (b : Bool) → length (keep t xs) ≡ tally t xs → length (cond b (x ∷ keep t xs) (keep t xs)) ≡ b2n b + tally t xs
      go true ih = omega arith
      go false ih = omega arith

  -- ---- any, all and find

  pub any_append : (t : A → Bool) (xs ys : List A) → any t (xs ++ ys) ≡ any t xs || any t ys
  any_append t [] ys = refl
  any_append t (x ∷ xs) ys = go (t x) (any_append t xs ys)
    where
      go : (b : Bool) → any t (xs ++ ys) ≡ any t xs || any t ys → b || any t (xs ++ ys) ≡ (b || any t xs) || any t ys
      go true ih = refl
      go false ih = ih

  pub any-no : (t : A → Bool) (xs : List A) → any t xs ≡ false → tally t xs ≡ 0
  any-no t [] h = refl
  any-no t (x ∷ xs) h = go (t x) h (any-no t xs)
    where
      go : (b : Bool) → b || any t xs ≡ false → (any t xs ≡ false → tally t xs ≡ 0) → b2n b + tally t xs ≡ 0
      go true h ih = let z : ◌≡◌ {A = ℕ} 0 1 = cc in omega arith
      go false h ih = omega (arith, ih h)

  pub any-yes : (t : A → Bool) (xs : List A) → any t xs ≡ true → 1 ≤ tally t xs
  any-yes t [] h = let z : ◌≡◌ {A = ℕ} 0 1 = cc in omega arith
  any-yes t (x ∷ xs) h = go (t x) h (any-yes t xs)
    where
      go : (b : Bool) → b || any t xs ≡ true → (any t xs ≡ true → 1 ≤ tally t xs) → 1 ≤ b2n b + tally t xs
      go true h ih = omega arith
      go false h ih = omega (arith, ih h)

  pub zero-any : (t : A → Bool) (xs : List A) → tally t xs ≡ 0 → any t xs ≡ false
  zero-any t xs z = go (any t xs) refl
    where
      go : (b : Bool) → any t xs ≡ b → any t xs ≡ false
      go false e = e
      go true e = absurd (omega (arith, any-yes t xs e))

  pub all_append : (t : A → Bool) (xs ys : List A) → all t xs ≡ true → all t ys ≡ true → all t (xs ++ ys) ≡ true
  all_append t [] ys h k = k
  all_append t (x ∷ xs) ys h k = rw (and_left (t x) (all t xs) h) (all_append t xs ys (and_right (t x) (all t xs) h) k)

  pub find-no : (t : A → Bool) (xs : List A) → find t xs ≡ none → tally t xs ≡ 0
  find-no t [] h = refl
  find-no t (x ∷ xs) h = go (t x) h (find-no t xs)
    where
      go : (b : Bool) → Path (Option A) (elim b [ true ↦ some x | false ↦ find t xs ]) none
          → (find t xs ≡ none → tally t xs ≡ 0) → b2n b + tally t xs ≡ 0
      go true h ih = let z : ◌≡◌ {A = ℕ} 0 1 = cc in omega arith
      go false h ih = omega (arith, ih h)

  -- what is found passes the test and is counted
  pub find-yes : (t : A → Bool) (xs : List A) (y : A) → find t xs ≡ some y
      → (t y ≡ true) × ((s : A → Bool) → b2n (s y) ≤ tally s xs)
  find-yes t [] y h = let z : ◌≡◌ {A = ℕ} 0 1 = cc in absurd (omega arith)
  find-yes t (x ∷ xs) y h = go (t x) refl h (find-yes t xs y)
    where
      go : (b : Bool) → t x ≡ b → Path (Option A) (elim b [ true ↦ some x | false ↦ find t xs ]) (some y)
          → (find t xs ≡ some y → (t y ≡ true) × ((s : A → Bool) → b2n (s y) ≤ tally s xs))
          → (t y ≡ true) × ((s : A → Bool) → b2n (s y) ≤ tally s (x ∷ xs))
      go true e h ih = let k : x ≡ y = cc in (cc, λ s. omega (arith, ap (λ (a : A). b2n (s a)) k))
      go false e h ih = ((ih h).0, λ s. omega (arith, (ih h).1 s))

  -- ---- Each

  pub each-zip : (P Q R : A → Type 0) → ((y : A) → P y → Q y → R y) → (xs : List A) → Each P xs → Each Q xs → Each R xs
  each-zip P Q R f [] p q = tt
  each-zip P Q R f (x ∷ xs) p q = (f x p.0 q.0, each-zip P Q R f xs p.1 q.1)

  pub each_append : (P : A → Type 0) (xs ys : List A) → Each P xs → Each P ys → Each P (xs ++ ys)
  each_append P [] ys h k = k
  each_append P (x ∷ xs) ys h k = (h.0, each_append P xs ys h.1 k)

  pub each-find : (P : A → Type 0) (t : A → Bool) (xs : List A) (y : A) → Each P xs → find t xs ≡ some y → P y
  each-find P t [] y h e = let z : ◌≡◌ {A = ℕ} 0 1 = cc in absurd (omega arith)
  each-find P t (x ∷ xs) y h e = go (t x) e (each-find P t xs y h.1)
    where
      some-eq : some x ≡ some y → x ≡ y
      some-eq q = cc

      go : (b : Bool) → Path (Option A) (elim b [ true ↦ some x | false ↦ find t xs ]) (some y) → (find t xs ≡ some y → P y) → P y
      go true q ih = subst P (some-eq q) h.0
      go false q ih = ih q

pub tally-map : {A B : Type 0} (f : A → B) (t : B → Bool) (xs : List A) → tally t (map f xs) ≡ tally (λ x. t (f x)) xs
tally-map f t [] = refl
tally-map f t (x ∷ xs) = omega (arith, tally-map f t xs)

pub bind-append : {A B : Type 0} (f : A → List B) (xs ys : List A) → bind (xs ++ ys) f ≡ bind xs f ++ bind ys f
bind-append f [] ys = refl
bind-append f (x ∷ xs) ys =
    ap (λ (l : List _). f x ++ l) (bind-append f xs ys) ∙ sym (append_assoc (f x) (bind xs f) (bind ys f))

pub tally-bind : {A B : Type 0} (t : B → Bool) (f : A → List B) (xs ys : List A)
    → tally t (bind (xs ++ ys) f) ≡ tally t (bind xs f) + tally t (bind ys f)
tally-bind t f [] ys = omega arith
tally-bind t f (x ∷ xs) ys =
    omega (arith, tally-append t (f x) (bind (xs ++ ys) f), tally-append t (f x) (bind xs f), tally-bind t f xs ys)
