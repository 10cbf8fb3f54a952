-- What is left of merged pages: all pairs of the hash code at the start, those after the taken one at each turn, none
-- where the first entry has another hash code.
use Rattle.std.specs.Prelude.{◌≡◌, refl, ◌≢◌, Bool, true, false, ◌&&◌, List, [], ◌∷◌, ◌++◌, ℕ, zero, suc, ◌+◌, ◌≤◌, ◌<◌, take, drop}
use Rattle.std.proofs.Common.{sym, ap, ap₂, ◌∙◌, arith, lt-ltb, le-ltb, ne_eqb, ltb-true, take-append-drop}
use Rattle.std.proofs.Math.Decide.{dec_lt}
use Rattle.lists.specs.Lists.{b2n, tally, keep, Each}
use Rattle.lists.specs.ListsLaws.{and-false, tally-append, tally-keep, tally-map, each-zip, each_append}
use Rattle.lists.specs.TestLaws.{zero-each}
use Rattle.page.specs.declared.Pair.{Pair}
use Rattle.page.specs.declared.Entry.{Entry}
use Rattle.page.specs.Pair.{same, before, pair_of, ascending}
use Rattle.page.specs.PairLaws.{no_way, Order, less, equal, more, order, same_refl, before-other, before-hash}
use Rattle.page.specs.SublistLaws.{each_map}
use Rattle.page.specs.AscendingLaws.{ascending-cons, ascending-once, each-enter}
use Rattle.page.specs.Places.{place_of}
use Rattle.page.specs.PlaceLaws.{place-take, place-drop}
use Rattle.page.proofs.RunLaws.{lowest}
use Rattle.model.specs.Held.{self, sorted}
use Rattle.model.specs.SortedLaws.{tally-sorted, ascending-sorted, ascending-ext}
use Rattle.chain.specs.Pairs.{counts, is_match, pairs_in}
use Rattle.chain.specs.PairsLaws.{pairs-append, pairs-none, each-pairs}
use Rattle.merge.specs.Merge.{joined, Best, Taken}
use Rattle.merge.specs.MergeLaws.{joined-each, taken-tally, taken-apart, taken-each, best_none, best-least}
use Rattle.merge.specs.Heads.{page_at, left_of, CursorsAt, Pages}
use Rattle.view.specs.Left.{pairs_left, fresh_at, NoLower}

each-sorted : (P : Pair → Type 0) (ps : List Pair) → Each P ps → Each P (sorted ps)
each-sorted P [] k = tt
each-sorted P (p ∷ ps) k = each-enter self P p (sorted ps) k.0 (each-sorted P ps k.1)

-- ---- entries that do not match

other-code : (h : ℕ) (fresh : Bool) (e : Entry) → e.pair.hash ≢ h → is_match h fresh e ≡ false
other-code h fresh e ne =
    ap (λ (b : Bool). counts fresh e && b) (ne_eqb e.pair.hash h ne) ∙ and-false (counts fresh e)

-- a pair that does not stand before another has no smaller hash code
later-hash : (p q : Pair) → before p q ≡ false → q.hash ≤ p.hash
later-hash p q h = go (order p.hash q.hash)
  where
    go : Order p.hash q.hash → q.hash ≤ p.hash
    go (less l) = let t : before p q ≡ true = rw (lt-ltb p.hash q.hash l) in no_way t h
    go (equal l) = omega arith
    go (more l) = omega arith

-- ---- pairs among joined entries

module _ (h : ℕ) (fresh : Bool) where
  abbrev hits : Pair → Entry → Bool
  hits p e = is_match h fresh e && same p e.pair

  tally-pairs : (p : Pair) (es : List Entry) → tally (same p) (pairs_in h fresh es) ≡ tally (hits p) es
  unfolding pairs_in
  tally-pairs p es =
      tally-map pair_of (same p) (keep (is_match h fresh) es)
      ∙ tally-keep (λ e. same p e.pair) (is_match h fresh) es

  pairs-joined : (f g : ℕ → List Entry) (i n : ℕ)
      → ((j : ℕ) → i ≤ j → j < i + n → pairs_in h fresh (f j) ≡ pairs_in h fresh (g j))
      → pairs_in h fresh (joined f i n) ≡ pairs_in h fresh (joined g i n)
  pairs-joined f g i zero e = refl
  pairs-joined f g i (suc n) e =
      pairs-append h fresh (f i) (joined f (suc i) n)
      ∙ ap₂ (λ (x y : List Pair). x ++ y) (e i (omega arith) (omega arith))
      (pairs-joined f g (suc i) n (λ j l u. e j (omega arith) (omega arith)))
      ∙ sym (pairs-append h fresh (g i) (joined g (suc i) n))

  -- entries before the sorted place of the lowest pair have smaller hash codes
  pairs-from : (es : List Entry) → pairs_in h fresh (drop (place_of (lowest h) es) es) ≡ pairs_in h fresh es
  pairs-from es =
      let p = place_of (lowest h) es in
      sym (ap (pairs_in h fresh) (sym (take-append-drop p es))
      ∙ pairs-append h fresh (take p es) (drop p es)
      ∙ ap (λ (ps : List Pair). ps ++ pairs_in h fresh (drop p es)) (pairs-none h fresh (take p es) none))
    where
      none : Each (λ e. is_match h fresh e ≡ false) (take (place_of (lowest h) es) es)
      none =
          each_map (λ e. before e.pair (lowest h) ≡ true) (λ e. is_match h fresh e ≡ false)
          (λ e b.
          other-code h fresh e
          (λ q. omega (arith, ltb-true e.pair.hash h (sym (before-hash e.pair h) ∙ b))))
          (take (place_of (lowest h) es) es) (place-take (lowest h) es)

-- ---- the start

module _ (s ks tails : List ℕ) (n k h : ℕ) (fresh : Bool) (pages : Pages s ks (n + k))
    (from : CursorsAt s ks (lowest h) (n + k) tails) where
  start_left : (i : ℕ) → i < n + k → left_of s ks tails i ≡ drop (place_of (lowest h) (page_at s ks i)) (page_at s ks i)
  start_left i l = ap (λ (c : ℕ). drop c (page_at s ks i)) (from i l)

  pub start-pairs : pairs_left (left_of s ks tails) n k h fresh ≡ pairs_left (page_at s ks) n k h fresh
  start-pairs =
      ap₂ (λ (x y : List Pair). x ++ y)
      (pairs-joined h fresh (left_of s ks tails) (page_at s ks) 0 n (λ j l u. one fresh j (omega arith)))
      (pairs-joined h false (left_of s ks tails) (page_at s ks) n k (λ j l u. one false j (omega arith)))
    where
      one : (b : Bool) (j : ℕ) → j < n + k → pairs_in h b (left_of s ks tails j) ≡ pairs_in h b (page_at s ks j)
      one b j l = ap (pairs_in h b) (start_left j l) ∙ pairs-from h b (page_at s ks j)

  pub start-above : NoLower (left_of s ks tails) (n + k) h
  start-above i l =
      rw (start_left i l)
      (each_map (λ e. before e.pair (lowest h) ≡ false) (λ e. h ≤ e.pair.hash)
      (λ e b. later-hash e.pair (lowest h) b) (drop (place_of (lowest h) (page_at s ks i)) (page_at s ks i))
      (place-drop (lowest h) (page_at s ks i) (pages.allowed i l).order))

-- ---- a turn, and the end

module _ (n k h : ℕ) (fresh : Bool) where
  abbrev left : (ℕ → List Entry) → List Pair
  left f = pairs_left f n k h fresh

  -- what holds of every entry that is left
  each_left : (f : ℕ → List Entry) (P : Pair → Type 0) → ((i : ℕ) → i < n + k → Each (λ e. P e.pair) (f i))
      → Each P (left f)
  each_left f P a =
      each_append P (pairs_in h fresh (joined f 0 n)) (pairs_in h false (joined f n k))
      (each-pairs h fresh P (joined f 0 n) (joined-each f (λ e. P e.pair) 0 n (λ i l u. a i (omega arith))))
      (each-pairs h false P (joined f n k) (joined-each f (λ e. P e.pair) n k (λ i l u. a i (omega arith))))

  -- every entry that is left has another hash code
  left_other : (f : ℕ → List Entry) → ((i : ℕ) → i < n + k → Each (λ e. e.pair.hash ≢ h) (f i)) → left f ≡ []
  left_other f a =
      ap₂ (λ (x y : List Pair). x ++ y)
      (pairs-none h fresh (joined f 0 n) (joined-each f _ 0 n (λ i l u. one fresh i (omega arith))))
      (pairs-none h false (joined f n k) (joined-each f _ n k (λ i l u. one false i (omega arith))))
    where
      one : (b : Bool) (i : ℕ) → i < n + k → Each (λ e. is_match h b e ≡ false) (f i)
      one b i l =
          each_map (λ e. e.pair.hash ≢ h) (λ e. is_match h b e ≡ false) (λ e ne. other-code h b e ne) (f i) (a i l)

  tally-left : (f : ℕ → List Entry) (p : Pair) → tally (same p) (left f)
      ≡ tally (hits h fresh p) (joined f 0 n) + tally (hits h false p) (joined f n k)
  tally-left f p =
      tally-append (same p) (pairs_in h fresh (joined f 0 n)) (pairs_in h false (joined f n k))
      ∙ omega (arith, tally-pairs h fresh p (joined f 0 n), tally-pairs h false p (joined f n k))

  module _ (f : ℕ → List Entry) {j : ℕ} (best : Best f (n + k) j) where
    -- nothing is left at all
    pub left-none : f j ≡ [] → pairs_left f n k h fresh ≡ []
    left-none z = left_other f (λ i l. rw (best_none f (n + k) best z i l) tt)

    module _ (up : (i : ℕ) → i < n + k → ascending pair_of (f i) ≡ true) (e : Entry) where
      -- the first entry that is left has another hash code, so a greater one, and so have all after it
      pub left-past : (es : List Entry) → f j ≡ e ∷ es → NoLower f (n + k) h → e.pair.hash ≢ h
          → pairs_left f n k h fresh ≡ []
      left-past es z above ne =
          left_other f (λ i l.
          each_map (λ y. before y.pair e.pair ≡ false) (λ y. y.pair.hash ≢ h)
          (λ y b q. omega (arith, later-hash y.pair e.pair b, first.0, ne)) (f i)
          (best-least f (n + k) best e es z i l (up i l)))
        where
          first : Each (λ y. h ≤ y.pair.hash) (e ∷ es)
          first = rw z at (above j best.upto)

      module _ (g : ℕ → List Entry) (taken : Taken f g j e) where
        abbrev match : Bool
        match = is_match h (fresh_at fresh n j) e

        turn-tally : (p : Pair)
            → tally (same p) (left f) ≡ b2n (match && same p e.pair) + tally (same p) (left g)
        turn-tally p = go (dec_lt j n)
          where
            go : Dec (j < n) → tally (same p) (left f) ≡ b2n (match && same p e.pair) + tally (same p) (left g)
            go (yes l) =
                rw (lt-ltb j n l)
                (omega (
                  arith,
                  tally-left f p,
                  tally-left g p,
                  taken-tally f g taken (hits h fresh p) 0 n (omega arith) (omega arith),
                  ap (tally (hits h false p)) (taken-apart f g taken n k (λ i a b q. omega arith)),
                ))
            go (no l) =
                rw (le-ltb j n (omega arith))
                (omega (
                  arith,
                  tally-left f p,
                  tally-left g p,
                  ap (tally (hits h fresh p)) (taken-apart f g taken 0 n (λ i a b q. omega arith)),
                  taken-tally f g taken (hits h false p) n k (omega arith) (omega (arith, best.upto)),
                ))

        pub turn-above : NoLower f (n + k) h → NoLower g (n + k) h
        turn-above above i l = taken-each f g taken (λ y. h ≤ y.pair.hash) i (above i l)

        module _ (once : ascending self (sorted (pairs_left f n k h fresh)) ≡ true) where
          one : (p : Pair) → tally (same p) (left f) ≤ 1
          one p = omega (arith, ascending-once self p (sorted (left f)) once, tally-sorted (same p) (left f))

          pub turn-once : ascending self (sorted (pairs_left g n k h fresh)) ≡ true
          turn-once = ascending-sorted (left g) (λ p. omega (arith, one p, turn-tally p))

          -- the entry does not count
          pub turn-skip : is_match h (fresh_at fresh n j) e ≡ false
              → sorted (pairs_left f n k h fresh) ≡ sorted (pairs_left g n k h fresh)
          turn-skip m =
              ascending-ext (sorted (left f)) (sorted (left g)) once turn-once
              (λ p. omega (
                arith,
                tally-sorted (same p) (left f),
                tally-sorted (same p) (left g),
                turn-tally p,
                ap (λ (b : Bool). b2n (b && same p e.pair)) m,
              ))

          -- it counts: it is the first pair that is left
          pub turn-first : is_match h (fresh_at fresh n j) e ≡ true
              → sorted (pairs_left f n k h fresh) ≡ e.pair ∷ sorted (pairs_left g n k h fresh)
          turn-first m =
              ascending-ext (sorted (left f)) (e.pair ∷ sorted (left g)) once
              (ascending-cons self e.pair (sorted (left g)) (each-sorted _ (left g) after) turn-once)
              (λ p. omega (
                arith,
                tally-sorted (same p) (left f),
                tally-sorted (same p) (left g),
                turn-tally p,
                ap (λ (b : Bool). b2n (b && same p e.pair)) m,
              ))
            where
              gone : tally (same e.pair) (left g) ≡ 0
              gone =
                  omega (
                    arith,
                    one e.pair,
                    turn-tally e.pair,
                    ap (λ (b : Bool). b2n (b && same e.pair e.pair)) m,
                    ap b2n (same_refl e.pair),
                  )

              after : Each (λ p. before e.pair p ≡ true) (left g)
              after =
                  each-zip (λ p. same e.pair p ≡ false) (λ p. before p e.pair ≡ false) _
                  (λ p a b. before-other e.pair p a b) (left g) (zero-each (same e.pair) (left g) gone)
                  (each_left g (λ p. before p e.pair ≡ false) (λ i l.
                  taken-each f g taken (λ y. before y.pair e.pair ≡ false) i
                  (best-least f (n + k) best e (g j) taken.here i l (up i l))))
