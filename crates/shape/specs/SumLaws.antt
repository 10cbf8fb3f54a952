-- How often a number stands in a list: lists of different numbers, runs of lists, and sums over a run of numbers.
use Rattle.std.specs.Prelude.{◌≡◌, refl, ◌≢◌, Bool, ◌&&◌, List, [], ◌∷◌, ℕ, zero, suc, ◌+◌, ◌≤◌, ◌<◌, eqb, length, get_or}
use Rattle.std.proofs.Common.{sym, ap, ◌∙◌, arith, eq-eqb, ne_eqb}
use Rattle.std.proofs.Math.Decide.{ℕ_discrete}
use Rattle.lists.specs.Lists.{b2n, all, tally, bind, Each, up_from}
use Rattle.lists.specs.ListsLaws.{tally-append}

-- ---- one list

pub tally-absent : (t : ℕ) (ks : List ℕ) → ((i : ℕ) → i < length ks → get_or ks i 0 ≢ t) → tally (eqb t) ks ≡ 0
tally-absent t [] h = refl
tally-absent t (k ∷ ks) h =
    omega (
      arith,
      ap b2n (ne_eqb t k (λ e. h 0 (omega arith) (sym e))),
      tally-absent t ks (λ i l. h (suc i) (omega arith)),
    )

-- no number stands twice in a list whose places all differ
pub tally-different : (t : ℕ) (ks : List ℕ) → ((i j : ℕ) → i < j → j < length ks → get_or ks i 0 ≢ get_or ks j 0)
    → tally (eqb t) ks ≤ 1
tally-different t [] h = omega arith
tally-different t (k ∷ ks) h =
    go (ℕ_discrete t k) (tally-different t ks (λ i j l g. h (suc i) (suc j) (omega arith) (omega arith)))
  where
    go : Dec (t ≡ k) → tally (eqb t) ks ≤ 1 → b2n (eqb t k) + tally (eqb t) ks ≤ 1
    go (yes e) ih =
        let none = tally-absent t ks (λ i l q. h 0 (suc i) (omega arith) (omega arith) (sym e ∙ sym q)) in
        omega (arith, ap b2n (eq-eqb t k e), none)
    go (no ne) ih = omega (arith, ap b2n (ne_eqb t k ne))

-- ---- a run of lists

module _ (f : ℕ → List ℕ) (t : ℕ) where
  pub run-absent : (i n : ℕ) → ((b : ℕ) → i ≤ b → b < i + n → tally (eqb t) (f b) ≡ 0)
      → tally (eqb t) (bind (up_from i n) f) ≡ 0
  run-absent i zero h = refl
  run-absent i (suc n) h =
      tally-append (eqb t) (f i) (bind (up_from (suc i) n) f)
      ∙ omega (
        arith,
        h i (omega arith) (omega arith),
        run-absent (suc i) n (λ b l g. h b (omega arith) (omega arith)),
      )

  -- a number that stands in one list at most, and once
  pub run-once : (c i n : ℕ) → ((b : ℕ) → i ≤ b → b < i + n → tally (eqb t) (f b) ≤ 1)
      → ((b : ℕ) → i ≤ b → b < i + n → b ≢ c → tally (eqb t) (f b) ≡ 0)
      → tally (eqb t) (bind (up_from i n) f) ≤ 1
  run-once c i zero h k = omega arith
  run-once c i (suc n) h k =
      rw (tally-append (eqb t) (f i) (bind (up_from (suc i) n) f))
      (go (ℕ_discrete i c)
      (run-once c (suc i) n (λ b l g. h b (omega arith) (omega arith)) (λ b l g. k b (omega arith) (omega arith))))
    where
      go : Dec (i ≡ c) → tally (eqb t) (bind (up_from (suc i) n) f) ≤ 1
          → tally (eqb t) (f i) + tally (eqb t) (bind (up_from (suc i) n) f) ≤ 1
      go (yes e) ih =
          let none = run-absent (suc i) n (λ b l g. k b (omega arith) (omega arith) (λ q. omega (arith, q))) in
          omega (arith, h i (omega arith) (omega arith), none)
      go (no ne) ih = omega (arith, k i (omega arith) (omega arith) ne)

-- ---- sums

unfoldable pub sum : (ℕ → ℕ) → (i n : ℕ) → ℕ
sum f i zero = 0
sum f i (suc n) = f i + sum f (suc i) n

sum-le : (f g : ℕ → ℕ) (i n : ℕ) → ((k : ℕ) → f k ≤ g k) → sum f i n ≤ sum g i n
unfolding sum
sum-le f g i zero h = omega arith
sum-le f g i (suc n) h = omega (arith, h i, sum-le f g (suc i) n h)

-- numbers of which none is above its fellow are equal if their sums are
pub sums-equal : (f g : ℕ → ℕ) (i n : ℕ) → ((k : ℕ) → f k ≤ g k)
    → all (λ k. eqb (f k) (g k)) (up_from i n) ≡ eqb (sum f i n) (sum g i n)
unfolding sum
sums-equal f g i zero h = refl
sums-equal f g i (suc n) h =
    ap (λ (b : Bool). eqb (f i) (g i) && b) (sums-equal f g (suc i) n h)
    ∙ go (ℕ_discrete (f i) (g i)) (ℕ_discrete (sum f (suc i) n) (sum g (suc i) n))
  where
    go : Dec (f i ≡ g i) → Dec (sum f (suc i) n ≡ sum g (suc i) n)
        → eqb (f i) (g i) && eqb (sum f (suc i) n) (sum g (suc i) n)
        ≡ eqb (f i + sum f (suc i) n) (g i + sum g (suc i) n)
    go (yes e) (yes q) =
        rw (
          eq-eqb (f i) (g i) e,
          eq-eqb (sum f (suc i) n) (sum g (suc i) n) q,
          eq-eqb (f i + sum f (suc i) n) (g i + sum g (suc i) n) (omega arith),
        )
    go (yes e) (no q) =
        rw (
          eq-eqb (f i) (g i) e,
          ne_eqb (sum f (suc i) n) (sum g (suc i) n) q,
          ne_eqb (f i + sum f (suc i) n) (g i + sum g (suc i) n) (λ r. q (omega arith)),
        )
    go (no e) d =
        let less : f i < g i = omega (arith, h i) in
        rw (
          ne_eqb (f i) (g i) e,
          ne_eqb (f i + sum f (suc i) n) (g i + sum g (suc i) n) (λ r. omega (arith, sum-le f g (suc i) n h)),
        )

pub sum-tally : (t : ℕ → Bool) (i n : ℕ) → sum (λ k. b2n (t k)) i n ≡ tally t (up_from i n)
unfolding sum
sum-tally t i zero = refl
sum-tally t i (suc n) = ap (λ (x : ℕ). b2n (t i) + x) (sum-tally t (suc i) n)

sum-zero : (i n : ℕ) → sum (λ k. 0) i n ≡ 0
unfolding sum
sum-zero i zero = refl
sum-zero i (suc n) = omega (arith, sum-zero (suc i) n)

sum-add : (f g : ℕ → ℕ) (i n : ℕ) → sum (λ k. f k + g k) i n ≡ sum f i n + sum g i n
unfolding sum
sum-add f g i zero = refl
sum-add f g i (suc n) = omega (arith, sum-add f g (suc i) n)

sum-miss : (x i n : ℕ) → x < i → sum (λ k. b2n (eqb k x)) i n ≡ 0
unfolding sum
sum-miss x i zero h = refl
sum-miss x i (suc n) h =
    omega (arith, ap b2n (ne_eqb i x (λ e. omega (arith, e))), sum-miss x (suc i) n (omega arith))

sum-hit : (x i n : ℕ) → i ≤ x → x < i + n → sum (λ k. b2n (eqb k x)) i n ≡ 1
unfolding sum
sum-hit x i zero h l = absurd (omega arith)
sum-hit x i (suc n) h l = go (ℕ_discrete i x) (sum-hit x (suc i) n)
  where
    go : Dec (i ≡ x) → (suc i ≤ x → x < suc i + n → sum (λ k. b2n (eqb k x)) (suc i) n ≡ 1)
        → b2n (eqb i x) + sum (λ k. b2n (eqb k x)) (suc i) n ≡ 1
    go (yes e) ih = omega (arith, ap b2n (eq-eqb i x e), sum-miss x (suc i) n (omega arith))
    go (no ne) ih = omega (arith, ap b2n (ne_eqb i x ne), ih (omega arith) (omega arith))

-- each element of a list of numbers below n is counted once
pub sum-length : (n : ℕ) (xs : List ℕ) → Each (λ x. x < n) xs → sum (λ k. tally (eqb k) xs) 0 n ≡ length xs
sum-length n [] h = sum-zero 0 n
sum-length n (x ∷ xs) h =
    sum-add (λ k. b2n (eqb k x)) (λ k. tally (eqb k) xs) 0 n
    ∙ omega (arith, sum-hit x 0 n (omega arith) (omega (arith, h.0)), sum-length n xs h.1)
