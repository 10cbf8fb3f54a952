-- Laws on lists, for any elements: tests, tallies, and what one part of a run has of all.
use Rattle.std.specs.Prelude.{◌≡◌, refl, ◌≢◌, Bool, true, false, cond, not, ◌&&◌, ◌||◌, List, [], ◌∷◌, ◌++◌, ℕ, zero, suc, ◌+◌, ◌≤◌, ◌<◌, eqb, length}
use Rattle.std.proofs.Common.{ap, ◌∙◌, arith}
use Rattle.std.proofs.Math.Decide.{ℕ_discrete}
use Rattle.lists.specs.Lists.{b2n, any, tally, keep, bind, up_from}
use Rattle.lists.specs.ListsLaws.{eqb_yes, tally-append, tally-keep, tally-cong, any-yes, any-no}
use Rattle.page.specs.SublistLaws.{sublist-keep, tally-sublist}

-- ---- Booleans

pub and_comm : (a b : Bool) → a && b ≡ b && a
and_comm true true = refl
and_comm true false = refl
and_comm false true = refl
and_comm false false = refl

pub or_left : (a b : Bool) → a || b ≡ false → a ≡ false
or_left true b h = h
or_left false b h = refl

pub or_right : (a b : Bool) → a || b ≡ false → b ≡ false
or_right true b h = let z : ◌≡◌ {A = ℕ} 0 1 = cc in absurd (omega arith)
or_right false b h = h

pub b2n-le : (b : Bool) → b2n b ≤ 1
b2n-le true = omega arith
b2n-le false = omega arith

pub b2n-eq : (a b : Bool) → b2n a ≡ b2n b → a ≡ b
b2n-eq true true h = refl
b2n-eq false false h = refl
b2n-eq true false h = absurd (omega arith)
b2n-eq false true h = absurd (omega arith)

-- ---- tally

module _ {A : Type 0} where
  pub tally-false : (xs : List A) → tally (λ x. false) xs ≡ 0
  tally-false [] = refl
  tally-false (x ∷ xs) = omega (arith, tally-false xs)

  -- by another test, those that pass it and those that do not
  pub tally-parts : (s t : A → Bool) (xs : List A)
      → tally t xs ≡ tally (λ x. s x && t x) xs + tally (λ x. not (s x) && t x) xs
  tally-parts s t [] = refl
  tally-parts s t (x ∷ xs) = go (s x) (t x) (tally-parts s t xs)
    where
      go : (a b : Bool) → tally t xs ≡ tally (λ y. s y && t y) xs + tally (λ y. not (s y) && t y) xs
          → b2n b + tally t xs
          ≡ (b2n (a && b) + tally (λ y. s y && t y) xs) + (b2n (not a && b) + tally (λ y. not (s y) && t y) xs)
      go true b ih = omega arith
      go false b ih = omega arith

  pub tally-any : (t : A → Bool) (xs : List A) (b : Bool) → tally t xs ≡ b2n b → any t xs ≡ b
  tally-any t xs b h = go (any t xs) b refl h
    where
      go : (a b : Bool) → any t xs ≡ a → tally t xs ≡ b2n b → a ≡ b
      go true true e h = refl
      go false false e h = refl
      go true false e h = absurd (omega (arith, any-yes t xs e))
      go false true e h = absurd (omega (arith, any-no t xs e))

  -- one element more, that passes or not
  pub any-more : (t : A → Bool) (xs ys : List A) (b : Bool) → tally t ys ≡ b2n b + tally t xs
      → any t ys ≡ b || any t xs
  any-more t xs ys b h = go (any t ys) b (any t xs) refl refl h
    where
      go : (c b d : Bool) → any t ys ≡ c → any t xs ≡ d → tally t ys ≡ b2n b + tally t xs → c ≡ b || d
      go true true d i l h = refl
      go true false true i l h = refl
      go false false false i l h = refl
      go true false false i l h = absurd (omega (arith, any-yes t ys i, any-no t xs l))
      go false true d i l h = absurd (omega (arith, any-no t ys i))
      go false false true i l h = absurd (omega (arith, any-no t ys i, any-yes t xs l))

-- ---- runs of numbers

pub tally-up_from : (t : ℕ → Bool) (n k len : ℕ) → k ≤ n → n < k + len → b2n (t n) ≤ tally t (up_from k len)
tally-up_from t n k zero l g = absurd (omega arith)
tally-up_from t n k (suc len) l g = go (ℕ_discrete n k) (tally-up_from t n (suc k) len)
  where
    go : Dec (n ≡ k) → (suc k ≤ n → n < suc k + len → b2n (t n) ≤ tally t (up_from (suc k) len))
        → b2n (t n) ≤ b2n (t k) + tally t (up_from (suc k) len)
    go (yes e) ih = omega (arith, ap (λ (i : ℕ). b2n (t i)) e)
    go (no e) ih = omega (arith, ih (omega arith) (omega arith))

-- lists f k, f (k + 1), .. of which only f h has elements that pass
module _ {A : Type 0} (t : A → Bool) (f : ℕ → List A) where
  bind-none : (k n : ℕ) → ((b : ℕ) → k ≤ b → tally t (f b) ≡ 0) → tally t (bind (up_from k n) f) ≡ 0
  bind-none k zero z = refl
  bind-none k (suc n) z =
      tally-append t (f k) _ ∙ omega (arith, z k (omega arith), bind-none (suc k) n (λ b l. z b (omega arith)))

  pub bind-one : (h k n : ℕ) → k ≤ h → h < k + n → ((b : ℕ) → b ≢ h → tally t (f b) ≡ 0)
      → tally t (bind (up_from k n) f) ≡ tally t (f h)
  bind-one h k zero l g z = absurd (omega arith)
  bind-one h k (suc n) l g z = at (ℕ_discrete k h) (λ p q. bind-one h (suc k) n p q z)
    where
      at : Dec (k ≡ h) → (suc k ≤ h → h < suc k + n → tally t (bind (up_from (suc k) n) f) ≡ tally t (f h))
          → tally t (f k ++ bind (up_from (suc k) n) f) ≡ tally t (f h)
      at (yes e) ih =
          tally-append t (f k) _
          ∙ omega (arith, bind-none (suc k) n (λ b m. z b (omega arith)), ap (λ (i : ℕ). tally t (f i)) e)
      at (no e) ih = tally-append t (f k) _ ∙ omega (arith, z k e, ih (omega arith) (omega arith))

-- ---- numbers that stand once, in a range

pub length-parts : {A : Type 0} (t : A → Bool) (xs : List A) → length xs ≡ tally t xs + length (keep (λ x. not (t x)) xs)
length-parts t [] = refl
length-parts t (x ∷ xs) = go (t x) (length-parts t xs)
  where
    go : (b : Bool) → length xs ≡ tally t xs + length (keep (λ y. not (t y)) xs)
        → suc (length xs)
        ≡ (b2n b + tally t xs) + length (cond (not b) (x ∷ keep (λ y. not (t y)) xs) (keep (λ y. not (t y)) xs))
    go true ih = omega arith
    go false ih = omega arith

pub length-range : (len k : ℕ) (ns : List ℕ) → ((n : ℕ) → tally (eqb n) ns ≤ 1)
    → ((n : ℕ) → 1 ≤ tally (eqb n) ns → (k ≤ n) × (n < k + len)) → length ns ≤ len
length-range zero k [] once range = omega arith
length-range zero k (n ∷ ns) once range =
    let r = range n (omega (arith, ap b2n (eqb_yes n n refl))) in absurd (omega (arith, r.0, r.1))
length-range (suc len) k ns once range =
    omega (arith, length-parts (eqb k) ns, once k, length-range len (suc k) (keep (λ n. not (eqb k n)) ns) once' range')
  where
    less : (n : ℕ) → tally (eqb n) (keep (λ i. not (eqb k i)) ns) ≤ tally (eqb n) ns
    less n = tally-sublist (eqb n) (sublist-keep (λ i. not (eqb k i)) ns)

    once' : (n : ℕ) → tally (eqb n) (keep (λ i. not (eqb k i)) ns) ≤ 1
    once' n = omega (arith, less n, once n)

    gone : (n : ℕ) → n ≡ k → tally (eqb n) (keep (λ i. not (eqb k i)) ns) ≡ 0
    gone n e =
        tally-keep (eqb n) (λ i. not (eqb k i)) ns
        ∙ ap (λ (j : ℕ). tally (λ i. not (eqb k i) && eqb j i) ns) e
        ∙ tally-cong _ (λ i. false) ns (λ i. go (eqb k i))
        ∙ tally-false ns
      where
        go : (b : Bool) → not b && b ≡ false
        go true = refl
        go false = refl

    range' : (n : ℕ) → 1 ≤ tally (eqb n) (keep (λ i. not (eqb k i)) ns) → (suc k ≤ n) × (n < suc k + len)
    range' n h = at (range n (omega (arith, less n))) (ℕ_discrete n k)
      where
        at : (k ≤ n) × (n < k + suc len) → Dec (n ≡ k) → (suc k ≤ n) × (n < suc k + len)
        at r (yes e) = absurd (omega (arith, gone n e))
        at r (no e) = (omega (arith, r.0), omega (arith, r.1))
