-- Lists merged by number: whether a pair stands in them, by the entry that comes first, and what tests of all entries
-- tell when that entry is taken.
use Rattle.std.specs.Prelude.{◌≡◌, refl, Bool, true, false, not, ◌&&◌, ◌||◌, List, [], ◌∷◌, ℕ, ◌+◌, ◌≤◌, ◌<◌}
use Rattle.std.proofs.Common.{sym, ap, ap₂, ◌∙◌, arith}
use Rattle.lists.specs.Lists.{b2n, any, all, tally, Each}
use Rattle.lists.specs.ListsLaws.{any-no, any-yes, zero-any}
use Rattle.page.specs.declared.Pair.{Pair}
use Rattle.page.specs.declared.Entry.{Entry}
use Rattle.page.specs.Pair.{same, before, is, pair_of, ascending}
use Rattle.page.specs.PairLaws.{no_way, same-eq, same_refl, before_same, before-other}
use Rattle.page.specs.SublistLaws.{each_map, tally-no}
use Rattle.page.specs.AscendingLaws.{ascending-once}
use Rattle.model.specs.TallyLaws.{any-more}
use Rattle.image.specs.Rules.{distinct}
use Rattle.image.proofs.PairRuleLaws.{distinct-once, once-distinct}
use Rattle.merge.specs.Merge.{joined, Best, Taken}
use Rattle.merge.specs.MergeLaws.{before-then, joined-each, joined-part, taken-tally, best_none, best-end, best-least}
use Rattle.entries.specs.Next.{head_is, head_before, NotBefore, Kept}

pub ascending-distinct : (es : List Entry) → ascending pair_of es ≡ true → distinct es ≡ true
ascending-distinct es h = once-distinct es (λ p. ascending-once pair_of p es h)

-- ---- tests of all entries

all_any : {A : Type 0} (t : A → Bool) (xs : List A) → all t xs ≡ not (any (λ x. not (t x)) xs)
all_any t [] = refl
all_any t (x ∷ xs) = go (t x) (all_any t xs)
  where
    go : (b : Bool) → all t xs ≡ not (any (λ y. not (t y)) xs) → b && all t xs ≡ not (not b || any (λ y. not (t y)) xs)
    go true ih = ih
    go false ih = refl

pub all_same : {A : Type 0} (t u : A → Bool) (xs : List A) → Each (λ x. t x ≡ u x) xs → all t xs ≡ all u xs
all_same t u [] h = refl
all_same t u (x ∷ xs) h = ap₂ (λ (a b : Bool). a && b) h.0 (all_same t u xs h.1)

not-or : (a b : Bool) → not (not a || b) ≡ a && not b
not-or true b = refl
not-or false b = refl

-- ---- an entry more

module _ (e : Entry) (xs ys : List Entry) (more : (p : Pair) → tally (is p) xs ≡ b2n (is p e) + tally (is p) ys) where
  distinct-past : tally (is e.pair) ys ≡ 0 → distinct xs ≡ distinct ys
  distinct-past z = go (distinct xs) refl (distinct ys) refl
    where
      up : distinct ys ≡ true → (p : Pair) → tally (is p) xs ≤ 1
      up h p = at (is p e) refl
        where
          at : (b : Bool) → is p e ≡ b → tally (is p) xs ≤ 1
          at true q =
              let r : tally (is p) ys ≡ 0 = rw (same-eq p e.pair q) z in
              omega (arith, more p, ap b2n q)
          at false q = omega (arith, more p, ap b2n q, distinct-once p ys h)

      go : (a : Bool) → distinct xs ≡ a → (b : Bool) → distinct ys ≡ b → a ≡ b
      go true h true k = refl
      go false h false k = refl
      go true h false k = no_way (once-distinct ys (λ p. omega (arith, more p, distinct-once p xs h))) k
      go false h true k = no_way (once-distinct xs (up k)) h

  distinct-twice : 1 ≤ tally (is e.pair) ys → distinct xs ≡ false
  distinct-twice z = go (distinct xs) refl
    where
      go : (a : Bool) → distinct xs ≡ a → a ≡ false
      go false h = refl
      go true h =
          absurd (omega (arith, distinct-once e.pair xs h, more e.pair, ap b2n (same_refl e.pair)))

  distinct_more : distinct xs ≡ not (any (is e.pair) ys) && distinct ys
  distinct_more = go (any (is e.pair) ys) refl
    where
      go : (b : Bool) → any (is e.pair) ys ≡ b → distinct xs ≡ not b && distinct ys
      go true q = distinct-twice (any-yes (is e.pair) ys q)
      go false q = distinct-past (any-no (is e.pair) ys q)

-- ---- the first entry is taken

module _ (f g : ℕ → List Entry) (n : ℕ) {j : ℕ} {e : Entry} (taken : Taken f g j e) (upto : j < n) where
  more : (t : Entry → Bool) → tally t (joined f 0 n) ≡ b2n (t e) + tally t (joined g 0 n)
  more t = taken-tally f g taken t 0 n (omega arith) (omega arith)

  pub taken-less : tally (λ x. true) (joined g 0 n) < tally (λ x. true) (joined f 0 n)
  taken-less = omega (arith, more (λ x. true))

  pub taken-any : (t : Entry → Bool) → any t (joined f 0 n) ≡ t e || any t (joined g 0 n)
  taken-any t = any-more t (joined g 0 n) (joined f 0 n) (t e) (more t)

  pub taken-all : (t : Entry → Bool) → all t (joined f 0 n) ≡ t e && all t (joined g 0 n)
  taken-all t =
      all_any t (joined f 0 n) ∙ ap not (taken-any (λ x. not (t x)))
      ∙ not-or (t e) (any (λ x. not (t x)) (joined g 0 n))
      ∙ ap (λ (b : Bool). t e && b) (sym (all_any t (joined g 0 n)))

  pub taken-distinct : distinct (joined f 0 n) ≡ not (any (is e.pair) (joined g 0 n)) && distinct (joined g 0 n)
  taken-distinct = distinct_more e (joined f 0 n) (joined g 0 n) (λ p. more (is p))

  -- an entry before the pair p is taken: any pair that is not before p stands there as it did
  pub taken-kept : (p : Pair) → before e.pair p ≡ true → Kept f g n p
  taken-kept p h x k = taken-any (is x) ∙ ap (λ (b : Bool). b || any (is x) (joined g 0 n)) (go (is x e) refl)
    where
      go : (b : Bool) → is x e ≡ b → b ≡ false
      go false q = refl
      go true q = no_way (rw (same-eq x e.pair q) h) k

-- ---- the list that leads

module _ (f : ℕ → List Entry) (n : ℕ) {j : ℕ} (best : Best f n j)
    (up : (i : ℕ) → i < n → ascending pair_of (f i) ≡ true) where
  -- no entry stands before the first of all
  pub first-least : (e : Entry) (es : List Entry) → f j ≡ e ∷ es → NotBefore f n e.pair
  first-least e es z i h = best-least f n best e es z i h (up i h)

  -- nor before what the first does not stand before
  pub first-not-before : (p : Pair) → head_before p (f j) ≡ false → NotBefore f n p
  first-not-before p h = go (f j) refl h
    where
      go : (xs : List Entry) → f j ≡ xs → head_before p xs ≡ false → NotBefore f n p
      go [] z q i l = rw (best_none f n best z i l) tt
      go (x ∷ xs) z q i l =
          each_map (λ y. before y.pair x.pair ≡ false) (λ y. before y.pair p ≡ false) later (f i)
          (first-least x xs z i l)
        where
          later : (y : Entry) → before y.pair x.pair ≡ false → before y.pair p ≡ false
          later y k = at (before y.pair p) refl
            where
              at : (b : Bool) → before y.pair p ≡ b → b ≡ false
              at false r = refl
              at true r = no_way (before-then y.pair p x.pair r q) k

  -- where no entry stands before the pair, it stands there exactly if the first entry has it
  pub first_any : (p : Pair) → NotBefore f n p → head_is p (f j) ≡ any (is p) (joined f 0 n)
  first_any p low = go (f j) refl
    where
      go : (xs : List Entry) → f j ≡ xs → head_is p xs ≡ any (is p) (joined f 0 n)
      go [] z = sym (ap (any (is p)) (best-end f n best z))
      go (x ∷ xs) z = at (same p x.pair) refl
        where
          one : same p x.pair ≡ true → 1 ≤ tally (is p) (f j)
          one q = omega (arith, ap (tally (is p)) z, ap b2n q)

          after : before p x.pair ≡ true → (y : Entry) → before y.pair x.pair ≡ false → is p y ≡ false
          after q y k = before_same p y.pair (before-then p x.pair y.pair q k)

          none : same p x.pair ≡ false → any (is p) (joined f 0 n) ≡ false
          none q =
              let head : Each (λ y. before y.pair p ≡ false) (x ∷ xs) = rw z at (low j best.upto) in
              let q' = before-other p x.pair q head.0 in
              zero-any (is p) (joined f 0 n)
              (tally-no (is p) (joined f 0 n)
              (joined-each f (λ y. is p y ≡ false) 0 n
              (λ i l u. each_map (λ y. before y.pair x.pair ≡ false) (λ y. is p y ≡ false) (after q') (f i)
              (first-least x xs z i (omega arith)))))

          at : (b : Bool) → same p x.pair ≡ b → b ≡ any (is p) (joined f 0 n)
          at false q = sym (none q)
          at true q = look (any (is p) (joined f 0 n)) refl
            where
              look : (b : Bool) → any (is p) (joined f 0 n) ≡ b → true ≡ b
              look true r = refl
              look false r =
                  absurd
                  (omega (
                    arith,
                    one q,
                    any-no (is p) (joined f 0 n) r,
                    joined-part f (is p) 0 n j (omega arith) (omega (arith, best.upto)),
                  ))
