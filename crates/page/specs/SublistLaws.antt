-- What holds of a list with elements left out, and the functions that leave elements out.
use Rattle.std.specs.Prelude.{◌≡◌, refl, Bool, true, false, cond, List, [], ◌∷◌, ◌++◌, ℕ, zero, suc, ◌≤◌, ◌<◌, length, get_or, take, drop}
use Rattle.std.proofs.Common.{ap, arith}
use Rattle.lists.specs.Lists.{b2n, all, tally, keep, Each}
use Rattle.lists.specs.ListsLaws.{and_left, and_right, and_both}
use Rattle.page.specs.Sublist.{Sublist, ends, leaves, keeps}

module _ {A : Type 0} where
  pub sublist-refl : (xs : List A) → Sublist xs xs
  sublist-refl [] = ends
  sublist-refl (x ∷ xs) = keeps (sublist-refl xs)

  sublist-nil : (xs : List A) → Sublist [] xs
  sublist-nil [] = ends
  sublist-nil (x ∷ xs) = leaves (sublist-nil xs)

  pub sublist-take : (k : ℕ) (xs : List A) → Sublist (take k xs) xs
  sublist-take zero xs = sublist-nil xs
  sublist-take (suc k) [] = ends
  sublist-take (suc k) (x ∷ xs) = keeps (sublist-take k xs)

  pub sublist-drop : (k : ℕ) (xs : List A) → Sublist (drop k xs) xs
  sublist-drop zero xs = sublist-refl xs
  sublist-drop (suc k) [] = ends
  sublist-drop (suc k) (x ∷ xs) = leaves (sublist-drop k xs)

  pub sublist-left : (xs ys : List A) → Sublist xs (xs ++ ys)
  sublist-left [] ys = sublist-nil ys
  sublist-left (x ∷ xs) ys = keeps (sublist-left xs ys)

  pub sublist-right : (xs ys : List A) → Sublist ys (xs ++ ys)
  sublist-right [] ys = sublist-refl ys
  sublist-right (x ∷ xs) ys = leaves (sublist-right xs ys)

  pub sublist-keep : (t : A → Bool) (xs : List A) → Sublist (keep t xs) xs
  sublist-keep t [] = ends
  sublist-keep t (x ∷ xs) = go (t x) (sublist-keep t xs)
    where
      go : (b : Bool) → Sublist (keep t xs) xs → Sublist (cond b (x ∷ keep t xs) (keep t xs)) (x ∷ xs)
      go true s = keeps s
      go false s = leaves s

  pub each-sublist : (P : A → Type 0) {xs ys : List A} → Sublist xs ys → Each P ys → Each P xs
  each-sublist P ends h = tt
  each-sublist P (leaves s) h = each-sublist P s h.1
  each-sublist P (keeps s) h = (h.0, each-sublist P s h.1)

  pub tally-sublist : (t : A → Bool) {xs ys : List A} → Sublist xs ys → tally t xs ≤ tally t ys
  tally-sublist t ends = omega arith
  tally-sublist t (leaves s) = omega (arith, tally-sublist t s)
  tally-sublist t (keeps s) = omega (arith, tally-sublist t s)

  pub length-sublist : {xs ys : List A} → Sublist xs ys → length xs ≤ length ys
  length-sublist ends = omega arith
  length-sublist (leaves s) = omega (arith, length-sublist s)
  length-sublist (keeps s) = omega (arith, length-sublist s)

  -- ---- every element

  pub each-get_or : (P : A → Type 0) (xs : List A) (k : ℕ) (d : A) → Each P xs → k < length xs → P (get_or xs k d)
  each-get_or P [] k d h l = absurd (omega arith)
  each-get_or P (x ∷ xs) zero d h l = h.0
  each-get_or P (x ∷ xs) (suc k) d h l = each-get_or P xs k d h.1 (omega arith)

  pub each_map : (P Q : A → Type 0) → ((y : A) → P y → Q y) → (xs : List A) → Each P xs → Each Q xs
  each_map P Q f [] h = tt
  each_map P Q f (x ∷ xs) h = (f x h.0, each_map P Q f xs h.1)

  pub each_keep : (t : A → Bool) (P : A → Type 0) → ((x : A) → t x ≡ true → P x) → (xs : List A) → Each P (keep t xs)
  each_keep t P f [] = tt
  each_keep t P f (x ∷ xs) = go (t x) refl (each_keep t P f xs)
    where
      go : (b : Bool) → t x ≡ b → Each P (keep t xs) → Each P (cond b (x ∷ keep t xs) (keep t xs))
      go true h ih = (f x h, ih)
      go false h ih = ih

  pub all-each : (t : A → Bool) (xs : List A) → all t xs ≡ true → Each (λ x. t x ≡ true) xs
  all-each t [] h = tt
  all-each t (x ∷ xs) h = (and_left (t x) (all t xs) h, all-each t xs (and_right (t x) (all t xs) h))

  pub each_all : (t : A → Bool) (xs : List A) → Each (λ x. t x ≡ true) xs → all t xs ≡ true
  each_all t [] h = refl
  each_all t (x ∷ xs) h = and_both (t x) (all t xs) h.0 (each_all t xs h.1)

  -- a test that no element passes
  pub tally-no : (t : A → Bool) (xs : List A) → Each (λ x. t x ≡ false) xs → tally t xs ≡ 0
  tally-no t [] h = refl
  tally-no t (x ∷ xs) h = omega (arith, ap b2n h.0, tally-no t xs h.1)

  pub keep-none : (t : A → Bool) (xs : List A) → Each (λ x. t x ≡ false) xs → keep t xs ≡ []
  keep-none t [] h = refl
  keep-none t (x ∷ xs) h = rw h.0 (keep-none t xs h.1)

  -- a test that every element passes
  pub keep_all : (t : A → Bool) (xs : List A) → Each (λ x. t x ≡ true) xs → keep t xs ≡ xs
  keep_all t [] h = refl
  keep_all t (x ∷ xs) h = rw h.0 (ap (λ (l : List A). x ∷ l) (keep_all t xs h.1))
