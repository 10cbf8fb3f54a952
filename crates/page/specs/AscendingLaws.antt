-- Lists that ascend by their keys: each element stands before every later one, and no pair stands twice.
use Rattle.std.specs.Prelude.{◌≡◌, refl, Bool, true, false, cond, List, [], ◌∷◌, suc, ◌+◌, ◌≤◌, length}
use Rattle.std.proofs.Common.{ap, arith}
use Rattle.lists.specs.Lists.{b2n, any, tally, Each}
use Rattle.lists.specs.ListsLaws.{and_left, and_right, and_both, any-yes, any-no}
use Rattle.page.specs.declared.Pair.{Pair}
use Rattle.page.specs.Pair.{same, before, enter, ascending}
use Rattle.page.specs.PairLaws.{same-eq, before-trans, before_same, before-other}
use Rattle.page.specs.Sublist.{Sublist, ends, leaves, keeps}
use Rattle.page.specs.SublistLaws.{each-sublist, each_map, tally-no}

module _ {A : Type 0} (key : A → Pair) where
  -- p stands before every element
  abbrev pub After : Pair → List A → Type 0
  After p xs = Each (λ y. before p (key y) ≡ true) xs

  pub after-trans : (p q : Pair) (xs : List A) → before p q ≡ true → After q xs → After p xs
  after-trans p q xs h =
      each_map (λ y. before q (key y) ≡ true) (λ y. before p (key y) ≡ true)
      (λ y k. before-trans p q (key y) h k) xs

  pub ascending-tail : (x : A) (xs : List A) → ascending key (x ∷ xs) ≡ true → ascending key xs ≡ true
  ascending-tail x [] h = refl
  ascending-tail x (y ∷ ys) h = and_right (before (key x) (key y)) (ascending key (y ∷ ys)) h

  pub ascending-head : (x : A) (xs : List A) → ascending key (x ∷ xs) ≡ true → After (key x) xs
  ascending-head x [] h = tt
  ascending-head x (y ∷ ys) h =
      let k : before (key x) (key y) ≡ true = and_left (before (key x) (key y)) (ascending key (y ∷ ys)) h in
      (k, after-trans (key x) (key y) ys k (ascending-head y ys (ascending-tail x (y ∷ ys) h)))

  pub ascending-cons : (x : A) (xs : List A) → After (key x) xs → ascending key xs ≡ true
      → ascending key (x ∷ xs) ≡ true
  ascending-cons x [] a h = refl
  ascending-cons x (y ∷ ys) a h = and_both (before (key x) (key y)) (ascending key (y ∷ ys)) a.0 h

  pub ascending-sublist : {xs ys : List A} → Sublist xs ys → ascending key ys ≡ true → ascending key xs ≡ true
  ascending-sublist ends h = refl
  ascending-sublist (leaves {y = y} {ys = ys} s) h = ascending-sublist s (ascending-tail y ys h)
  ascending-sublist (keeps {x = x} {xs = xs} {ys = ys} s) h =
      ascending-cons x xs
      (each-sublist (λ y. before (key x) (key y) ≡ true) s (ascending-head x ys h))
      (ascending-sublist s (ascending-tail x ys h))

  after_none : (p : Pair) (xs : List A) → After p xs → tally (λ y. same p (key y)) xs ≡ 0
  after_none p xs h =
      tally-no (λ y. same p (key y)) xs
      (each_map (λ y. before p (key y) ≡ true) (λ y. same p (key y) ≡ false) (λ y k. before_same p (key y) k) xs h)

  -- no pair stands twice
  pub ascending-once : (p : Pair) (xs : List A) → ascending key xs ≡ true → tally (λ y. same p (key y)) xs ≤ 1
  ascending-once p [] h = omega arith
  ascending-once p (x ∷ xs) h = go (same p (key x)) refl (ascending-once p xs (ascending-tail x xs h))
    where
      go : (b : Bool) → same p (key x) ≡ b → tally (λ y. same p (key y)) xs ≤ 1
          → b2n b + tally (λ y. same p (key y)) xs ≤ 1
      go true e ih =
          let z = after_none (key x) xs (ascending-head x xs h) in
          omega (arith, rw (← same-eq p (key x) e) at z)
      go false e ih = omega arith

  -- so a pair is counted once where it stands
  pub ascending-any : (p : Pair) (xs : List A) → ascending key xs ≡ true
      → tally (λ y. same p (key y)) xs ≡ b2n (any (λ y. same p (key y)) xs)
  ascending-any p xs h = go (any (λ y. same p (key y)) xs) refl
    where
      go : (b : Bool) → any (λ y. same p (key y)) xs ≡ b → tally (λ y. same p (key y)) xs ≡ b2n b
      go true e = omega (arith, any-yes (λ y. same p (key y)) xs e, ascending-once p xs h)
      go false e = any-no (λ y. same p (key y)) xs e

  -- ---- a value at its sorted place

  pub tally-enter : (t : A → Bool) (x : A) (xs : List A) → tally t (enter key x xs) ≡ b2n (t x) + tally t xs
  tally-enter t x [] = refl
  tally-enter t x (y ∷ ys) = go (before (key y) (key x)) (tally-enter t x ys)
    where
      go : (b : Bool) → tally t (enter key x ys) ≡ b2n (t x) + tally t ys
          → tally t (cond b (y ∷ enter key x ys) (x ∷ y ∷ ys)) ≡ b2n (t x) + (b2n (t y) + tally t ys)
      go true ih = omega arith
      go false ih = refl

  pub length-enter : (x : A) (xs : List A) → length (enter key x xs) ≡ suc (length xs)
  length-enter x [] = refl
  length-enter x (y ∷ ys) = go (before (key y) (key x)) (length-enter x ys)
    where
      go : (b : Bool) → length (enter key x ys) ≡ suc (length ys)
          → length (cond b (y ∷ enter key x ys) (x ∷ y ∷ ys)) ≡ suc (suc (length ys))
      go true ih = ap suc ih
      go false ih = refl

  pub each-enter : (P : A → Type 0) (x : A) (xs : List A) → P x → Each P xs → Each P (enter key x xs)
  each-enter P x [] p h = (p, tt)
  each-enter P x (y ∷ ys) p h = go (before (key y) (key x)) (each-enter P x ys p h.1)
    where
      go : (b : Bool) → Each P (enter key x ys) → Each P (cond b (y ∷ enter key x ys) (x ∷ y ∷ ys))
      go true ih = (h.0, ih)
      go false ih = (p, h)

  pub ascending-enter : (x : A) (xs : List A) → tally (λ y. same (key x) (key y)) xs ≡ 0 → ascending key xs ≡ true
      → ascending key (enter key x xs) ≡ true
  ascending-enter x [] z h = refl
  ascending-enter x (y ∷ ys) z h =
      go (before (key y) (key x)) refl (ascending-enter x ys (omega arith) (ascending-tail y ys h))
    where
      apart : (b : Bool) → same (key x) (key y) ≡ b → b ≡ false
      apart false e = refl
      apart true e = absurd (omega (arith, ap b2n e))

      go : (b : Bool) → before (key y) (key x) ≡ b → ascending key (enter key x ys) ≡ true
          → ascending key (cond b (y ∷ enter key x ys) (x ∷ y ∷ ys)) ≡ true
      go true e ih =
          ascending-cons y (enter key x ys)
          (each-enter (λ v. before (key y) (key v) ≡ true) x ys e (ascending-head y ys h))
          ih
      go false e ih = rw (before-other (key x) (key y) (apart (same (key x) (key y)) refl) e) h
