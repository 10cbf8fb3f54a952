-- The order of heads, as numbers, is the order of the entries that they stand for.
use Rattle.std.specs.Prelude.{◌≡◌, refl, ◌≢◌, Bool, true, false, not, cond, List, [], ◌∷◌, ℕ, suc, ◌+◌, ◌*◌, ◌%◌, ◌/◌, ◌≤◌, ◌<◌, eqb, ltb, leb, length, get_or, set, drop}
use Rattle.std.proofs.Common.{sym, ap, ap₂, ◌∙◌, subst, arith, le-ltb, ltb-true, leb-true, eq-eqb, ne_eqb, drop_of_length-le, length-set, drop-cons, get_or-set_same, get_or-set_other}
use Rattle.std.proofs.Math.Decide.{ℕ_discrete}
use Rattle.lists.specs.ListsLaws.{and_left, not_yes}
use Rattle.endian.specs.Endian.{u16_at}
use Rattle.page.specs.declared.Pair.{Pair}
use Rattle.page.specs.declared.Entry.{Entry}
use Rattle.page.specs.Pair.{before, bad_pair}
use Rattle.page.specs.PairLaws.{no_way, Order, less, equal, more, order}
use Rattle.page.specs.Entries.{entry_at, entries_of}
use Rattle.page.specs.EntriesLaws.{length-entries_of, get_or-entries_of}
use Rattle.page.specs.Places.{place_of}
use Rattle.page.specs.Allowed.{Allowed}
use Rattle.merge.specs.Tree.{max_pages, no_later}
use Rattle.merge.specs.Merge.{leads}
use Rattle.merge.specs.KeyLaws.{key_below_lem, before-key}
use Rattle.merge.specs.Heads.{no_key, pair_key, pair_from, key_of, tail_of, page_at, left_of, Head, Heads, CursorsAt}

-- ---- heads of lists that pages may have

bad-not : (e : Entry) (es : List Entry) → Allowed (e ∷ es) → bad_pair e.pair ≡ false
bad-not e es ok = not_yes _ (and_left (not (bad_pair e.pair)) _ ok.clean)

head-below : (e : Entry) (es : List Entry) → Allowed (e ∷ es) → key_of (e ∷ es) < no_key
head-below e es ok = key_below_lem e.pair ok.fit.0 (bad-not e es ok)

pub key-done : (es : List Entry) → Allowed es → key_of es ≡ no_key → es ≡ []
key-done [] ok h = refl
key-done (e ∷ es) ok h = absurd (omega (arith, h, head-below e es ok))

pub head-leads : (xs ys : List Entry) (c d : ℕ) → c < 64 → d < 64 → Allowed xs → Allowed ys
    → no_later (key_of xs) (tail_of c xs) (key_of ys) (tail_of d ys) ≡ true → leads xs ys ≡ true
head-leads xs [] c d a b ok ok' h = refl
head-leads [] (y ∷ ys) c d a b ok ok' h =
    let l = head-below y ys ok' in
    no_way h
    (ap (λ (t : Bool). cond t (leb c (tail_of d (y ∷ ys))) (ltb no_key (key_of (y ∷ ys))))
    (ne_eqb no_key (key_of (y ∷ ys)) (λ e. omega (arith, e, l)))
    ∙ le-ltb no_key (key_of (y ∷ ys)) (omega (arith, l)))
head-leads (x ∷ xs) (y ∷ ys) c d a b ok ok' h =
    ap not (sym (before-key q p ok'.fit.0 ok.fit.0) ∙ go (order (pair_key p) (pair_key q)))
  where
    p : Pair
    p = x.pair

    q : Pair
    q = y.pair

    -- by the numbers, q does not come before p
    go : Order (pair_key p) (pair_key q)
        → cond (eqb (pair_key q) (pair_key p)) (ltb q.offset p.offset) (ltb (pair_key q) (pair_key p)) ≡ false
    go (less l) = rw (ne_eqb (pair_key q) (pair_key p) (omega arith)) (le-ltb (pair_key q) (pair_key p) (omega arith))
    go (equal e) =
        let t : leb (p.offset * 64 + c) (q.offset * 64 + d) ≡ true = rw (eq-eqb (pair_key p) (pair_key q) e) at h in
        rw (eq-eqb (pair_key q) (pair_key p) (sym e))
        (le-ltb q.offset p.offset (omega (arith, leb-true (p.offset * 64 + c) (q.offset * 64 + d) t, a, b)))
    go (more l) =
        no_way h (rw (ne_eqb (pair_key p) (pair_key q) (omega arith)) (le-ltb (pair_key p) (pair_key q) (omega arith)))

-- the head of what is left after the first entry comes no earlier
pub head-on : (e : Entry) (es : List Entry) (c : ℕ) → Allowed (e ∷ es)
    → (key_of (e ∷ es) ≤ key_of es) × (key_of (e ∷ es) ≡ key_of es → tail_of c (e ∷ es) ≤ tail_of (c + 1) es)
head-on e [] c ok = let l = head-below e [] ok in (omega (arith, l), λ q. absurd (omega (arith, l, q)))
head-on e (f ∷ es) c ok = go (order (pair_key p) (pair_key q))
  where
    p : Pair
    p = e.pair

    q : Pair
    q = f.pair

    h : cond (eqb (pair_key p) (pair_key q)) (ltb p.offset q.offset) (ltb (pair_key p) (pair_key q)) ≡ true
    h = before-key p q ok.fit.0 ok.fit.1.0 ∙ and_left (before p q) _ ok.order

    go : Order (pair_key p) (pair_key q)
        → (pair_key p ≤ pair_key q) × (pair_key p ≡ pair_key q → p.offset * 64 + c ≤ q.offset * 64 + (c + 1))
    go (less l) = (omega (arith, l), λ r. absurd (omega (arith, l, r)))
    go (equal z) =
        let l = ltb-true p.offset q.offset (rw (eq-eqb (pair_key p) (pair_key q) z) at h) in
        (omega (arith, z), λ r. omega (arith, l))
    go (more l) =
        no_way h (rw (ne_eqb (pair_key p) (pair_key q) (omega arith)) (le-ltb (pair_key p) (pair_key q) (omega arith)))

-- the first entry's pair, by its key and tail
pub head-pair : (e : Entry) (es : List Entry) (c k m : ℕ) → c < 64 → Allowed (e ∷ es) → k ≡ key_of (e ∷ es)
    → m ≡ tail_of c (e ∷ es) → e.pair ≡ pair_from k (m / 64)
head-pair e es c k m few ok key tail =
    let h : e.pair.hash ≡ k / 4294967296 = omega (arith, key, ok.fit.0.block) in
    let b : e.pair.block ≡ k % 4294967296 = omega (arith, key, ok.fit.0.block) in
    let o : e.pair.offset ≡ m / 64 = omega (arith, tail, few) in
    λ i. record { hash = h i; block = b i; offset = o i }

-- ---- heads of pages

module _ (l : List ℕ) (k : ℕ) where
  pub left-done : u16_at l 0 ≤ k → drop k (entries_of l) ≡ []
  left-done h = drop_of_length-le (entries_of l) {i = k} (omega (arith, length-entries_of l))

  pub left-more : k < u16_at l 0 → drop k (entries_of l) ≡ entry_at l k ∷ drop (suc k) (entries_of l)
  left-more h =
      drop-cons (entries_of l) k (entry_at l k) (omega (arith, length-entries_of l))
      ∙ ap (λ (e : Entry). e ∷ drop (suc k) (entries_of l)) (get_or-entries_of l k (entry_at l k) h)

-- ---- a head is put

module _ (s ks keys tails : List ℕ) (i c : ℕ) (in-keys : i < length keys) (in-tails : i < length tails)
    (few : c ≤ 40) where
  abbrev left : List Entry
  left = drop c (page_at s ks i)

  abbrev keys' : List ℕ
  keys' = set keys i (key_of (drop c (page_at s ks i)))

  abbrev tails' : List ℕ
  tails' = set tails i (tail_of c (drop c (page_at s ks i)))

  tail-cursor : (es : List Entry) → tail_of c es % 64 ≡ c
  tail-cursor [] = omega (arith, few)
  tail-cursor (e ∷ es) = omega (arith, few)

  pub put-cursor : get_or (set tails i (tail_of c (drop c (page_at s ks i)))) i 0 % 64 ≡ c
  put-cursor = ap (λ (m : ℕ). m % 64) (get_or-set_same tails i (tail_of c left) 0 in-tails) ∙ tail-cursor left

  pub put-left : left_of s ks (set tails i (tail_of c (drop c (page_at s ks i)))) i ≡ drop c (page_at s ks i)
  put-left = ap (λ (k : ℕ). drop k (page_at s ks i)) put-cursor

  pub put-head : Head s ks (set keys i (key_of (drop c (page_at s ks i)))) (set tails i (tail_of c (drop c
      (page_at s ks i)))) i
  put-head =
      record {
        key = get_or-set_same keys i (key_of left) 0 in-keys ∙ sym (ap key_of put-left);
        tail =
            get_or-set_same tails i (tail_of c left) 0 in-tails
            ∙ sym (ap₂ tail_of put-cursor put-left);
        few = omega (arith, put-cursor, few);
      }

  module _ (k : ℕ) (ne : k ≢ i) where
    same-tail : get_or tails' k 0 ≡ get_or tails k 0
    same-tail = get_or-set_other tails i k (tail_of c left) 0 ne

    pub other-cursor : get_or (set tails i (tail_of c (drop c (page_at s ks i)))) k 0 % 64 ≡ get_or tails k 0 % 64
    other-cursor = ap (λ (m : ℕ). m % 64) same-tail

    pub other-left : left_of s ks (set tails i (tail_of c (drop c (page_at s ks i)))) k ≡ left_of s ks tails k
    other-left = ap (λ (m : ℕ). drop m (page_at s ks k)) other-cursor

    pub other-head : Head s ks keys tails k
        → Head s ks (set keys i (key_of (drop c (page_at s ks i)))) (set tails i (tail_of c (drop c (page_at s ks i)))) k
    other-head h =
        record {
          key = get_or-set_other keys i k (key_of left) 0 ne ∙ h.key ∙ sym (ap key_of other-left);
          tail = same-tail ∙ h.tail ∙ sym (ap₂ tail_of other-cursor other-left);
          few = omega (arith, other-cursor, h.few);
        }

  -- the head of each page but page i stays
  pub heads-put : (n : ℕ) → length keys ≡ max_pages → length tails ≡ max_pages
      → ((k : ℕ) → k < n → k ≢ i → Head s ks keys tails k)
      → Heads s ks n (set keys i (key_of (drop c (page_at s ks i)))) (set tails i (tail_of c (drop c (page_at s ks i))))
  heads-put n sizes sizes' others =
      record {
        keys-size = length-set keys i (key_of left) ∙ sizes;
        tails-size = length-set tails i (tail_of c left) ∙ sizes';
        each = λ k h. go k h (ℕ_discrete k i);
      }
    where
      go : (k : ℕ) → k < n → Dec (k ≡ i) → Head s ks keys' tails' k
      go k h (yes e) = subst (Head s ks keys' tails') (sym e) put-head
      go k h (no e) = other-head k e (others k h e)

  -- of the first i pages, and then of page i, the heads are put
  pub heads-next : Heads s ks i keys tails
      → Heads s ks (i + 1) (set keys i (key_of (drop c (page_at s ks i)))) (set tails i (tail_of c (drop c
      (page_at s ks i))))
  heads-next h = heads-put (i + 1) h.keys-size h.tails-size (λ k l ne. h.each k (omega (arith, l, ne)))

  pub from_next : (from : Pair) → c ≡ place_of from (page_at s ks i) → CursorsAt s ks from i tails
      → CursorsAt s ks from (i + 1) (set tails i (tail_of c (drop c (page_at s ks i))))
  from_next from e h k l = go (ℕ_discrete k i)
    where
      go : Dec (k ≡ i) → get_or tails' k 0 % 64 ≡ place_of from (page_at s ks k)
      go (yes q) =
          ap (λ (x : ℕ). get_or tails' x 0 % 64) q ∙ put-cursor ∙ e ∙ ap (λ (x : ℕ). place_of from (page_at s ks x))
          (sym q)
      go (no q) = other-cursor k q ∙ h k (omega (arith, l, q))
