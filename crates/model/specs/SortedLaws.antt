-- Lists of pairs: sorting keeps how often each pair stands, and an ascending list is settled by the pairs in it.
use Rattle.std.specs.Prelude.{◌≡◌, refl, Bool, true, false, cond, ◌&&◌, List, [], ◌∷◌, suc, ◌≤◌, length}
use Rattle.std.proofs.Common.{sym, ap, ap₂, ◌∙◌, arith}
use Rattle.lists.specs.Lists.{b2n, any, tally, keep}
use Rattle.lists.specs.ListsLaws.{tally-keep, tally-cong, any-yes, any-no}
use Rattle.page.specs.declared.Pair.{Pair}
use Rattle.page.specs.Pair.{same, before, ascending}
use Rattle.page.specs.PairLaws.{same_refl, same-eq, before-conn}
use Rattle.page.specs.AscendingLaws.{after-trans, ascending-tail, ascending-head, ascending-cons, ascending-once}
use Rattle.page.specs.AscendingLaws.{ascending-any, tally-enter, length-enter, ascending-enter}
use Rattle.model.specs.Held.{self, sorted}
use Rattle.model.specs.TallyLaws.{tally-false}
use Rattle.lists.specs.ListsLaws.{and-false}

-- ---- sorting

pub tally-sorted : (t : Pair → Bool) (ps : List Pair) → tally t (sorted ps) ≡ tally t ps
tally-sorted t [] = refl
tally-sorted t (p ∷ ps) = tally-enter self t p (sorted ps) ∙ omega (arith, tally-sorted t ps)

pub length-sorted : (ps : List Pair) → length (sorted ps) ≡ length ps
length-sorted [] = refl
length-sorted (p ∷ ps) = length-enter self p (sorted ps) ∙ ap suc (length-sorted ps)

-- no pair stands twice: then the sorted list ascends strictly
pub ascending-sorted : (ps : List Pair) → ((p : Pair) → tally (same p) ps ≤ 1) → ascending self (sorted ps) ≡ true
ascending-sorted [] h = refl
ascending-sorted (p ∷ ps) h =
    ascending-enter self p (sorted ps)
    (tally-sorted (same p) ps ∙ omega (arith, h p, ap b2n (same_refl p)))
    (ascending-sorted ps (λ q. omega (arith, h q)))

-- ---- ascending lists

-- a pair before the first stands nowhere in the list
before-none : (p q : Pair) (qs : List Pair) → ascending self (q ∷ qs) ≡ true → before p q ≡ true
    → tally (same p) (q ∷ qs) ≡ 0
before-none p q qs h b =
    let k : ascending self (p ∷ q ∷ qs) ≡ true =
    ascending-cons self p (q ∷ qs) (b, after-trans self p q qs b (ascending-head self q qs h)) h in
    omega (arith, ascending-once self p (p ∷ q ∷ qs) k, ap b2n (same_refl p))

-- two ascending lists that have the same pairs are one
pub ascending-ext : (ps qs : List Pair) → ascending self ps ≡ true → ascending self qs ≡ true
    → ((p : Pair) → tally (same p) ps ≡ tally (same p) qs) → ps ≡ qs
ascending-ext [] [] h k e = refl
ascending-ext [] (q ∷ qs) h k e = absurd (omega (arith, e q, ap b2n (same_refl q)))
ascending-ext (p ∷ ps) [] h k e = absurd (omega (arith, e p, ap b2n (same_refl p)))
ascending-ext (p ∷ ps) (q ∷ qs) h k e =
    ap₂ (λ (r : Pair) (rs : List Pair). r ∷ rs) one
    (ascending-ext ps qs (ascending-tail self p ps h) (ascending-tail self q qs k)
    (λ r. omega (arith, e r, ap (λ (s : Pair). b2n (same r s)) one)))
  where
    first : (b c : Bool) → before p q ≡ b → before q p ≡ c → p ≡ q
    first false false f g = before-conn p q f g
    first true c f g = absurd (omega (arith, e p, before-none p q qs k f, ap b2n (same_refl p)))
    first false true f g = absurd (omega (arith, e q, before-none q p ps h g, ap b2n (same_refl q)))

    one : p ≡ q
    one = first (before p q) (before q p) refl refl

-- a list that has the pairs of an ascending one, each once
module _ (ps qs : List Pair) (h : ascending self qs ≡ true)
    (e : (p : Pair) → tally (same p) ps ≡ b2n (any (same p) qs)) where
  as-often : (p : Pair) → tally (same p) ps ≡ tally (same p) qs
  as-often p = e p ∙ sym (ascending-any self p qs h)

  pub sorted-is : sorted ps ≡ qs
  sorted-is =
      ascending-ext (sorted ps) qs (ascending-sorted ps (λ p. omega (arith, as-often p, ascending-once self p qs h))) h
      (λ p. tally-sorted (same p) ps ∙ as-often p)

  pub length-is : length ps ≡ length qs
  length-is = sym (length-sorted ps) ∙ ap length sorted-is

-- ---- keeping by a test on the pair keeps all of a pair or none

module _ {A : Type 0} (key : A → Pair) (g : Pair → Bool) (p : Pair) where
  pub tally-keep-pair : (xs : List A)
      → tally (λ a. same p (key a)) (keep (λ a. g (key a)) xs) ≡ cond (g p) (tally (λ a. same p (key a)) xs) 0
  tally-keep-pair xs =
      tally-keep (λ a. same p (key a)) (λ a. g (key a)) xs
      ∙ tally-cong _ (λ a. g p && same p (key a)) xs (λ a. one a (same p (key a)) refl)
      ∙ all (g p)
    where
      one : (a : A) (b : Bool) → same p (key a) ≡ b → g (key a) && b ≡ g p && b
      one a true k = ap (λ (q : Pair). g q && true) (sym (same-eq p (key a) k))
      one a false k = and-false (g (key a)) ∙ sym (and-false (g p))

      all : (b : Bool) → tally (λ a. b && same p (key a)) xs ≡ cond b (tally (λ a. same p (key a)) xs) 0
      all true = refl
      all false = tally-false xs

pub any-keep-pair : (g : Pair → Bool) (p : Pair) (ps : List Pair) → any (same p) (keep g ps) ≡ g p && any (same p) ps
any-keep-pair g p ps = go (any (same p) ps) (any (same p) (keep g ps)) (g p) refl refl (tally-keep-pair self g p ps)
  where
    go : (a b c : Bool) → any (same p) ps ≡ a → any (same p) (keep g ps) ≡ b
        → tally (same p) (keep g ps) ≡ cond c (tally (same p) ps) 0 → b ≡ c && a
    go a true false e f h = absurd (omega (arith, any-yes (same p) (keep g ps) f))
    go a false false e f h = refl
    go true true true e f h = refl
    go false false true e f h = refl
    go true false true e f h = absurd (omega (arith, any-yes (same p) ps e, any-no (same p) (keep g ps) f))
    go false true true e f h = absurd (omega (arith, any-no (same p) ps e, any-yes (same p) (keep g ps) f))
