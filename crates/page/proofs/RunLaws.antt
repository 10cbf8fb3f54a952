-- The run of a hash code: in a list that ascends it lies between two places, its entries are those with the code, and
-- a pair is looked for in it.
use Rattle.std.specs.Prelude.{◌≡◌, Bool, ◌&&◌, ◌||◌, ℕ, suc, ◌+◌, ◌≤◌, ◌<◌, eqb, length, get_or, drop}
use Rattle.std.proofs.Math.Path.{refl, ap}
use Rattle.std.proofs.Common.{sym, ◌∙◌, arith, add-one, one-add, get_or-take, get_or-drop}
use Rattle.std.proofs.Math.Bool.{true, false, cond}
use mathlib.Core.List.{List, [], ◌∷◌}
use Rattle.std.proofs.Math.Nat.{zero-add}
use Rattle.std.proofs.Math.Decide.{dec_lt, ℕ_discrete}
use borrow.Author.Tests.{lt-ltb, le-ltb, eq-eqb, ne_eqb}
use Rattle.std.proofs.Math.Dec.{ltb}
use Rattle.std.proofs.Math.ListN.{take}
use Rattle.lists.specs.Lists.{b2n, any, keep, Each}
use Rattle.lists.specs.ListsLaws.{tally-cong}
use Rattle.page.specs.declared.Pair.{Pair}
use Rattle.page.specs.declared.Entry.{Entry}
use Rattle.page.specs.Pair.{before, pair_of, is, ascending}
use Rattle.page.specs.PairLaws.{Order, less, equal, more, order, lex-equal, lex-apart}
use Rattle.page.specs.PairLaws.{before-hash, before-hash-le}
use Rattle.page.specs.Places.{place_of, reading_key}
use Rattle.page.specs.Run.{has_code, run_length, run_start}
use Rattle.page.specs.SublistLaws.{each_map, tally-no, keep-none}
use Rattle.page.specs.AscendingLaws.{ascending-tail, ascending-head}
use Rattle.page.specs.PlaceLaws.{place-le, tally-before}

-- the lowest pair with the hash code
abbrev pub lowest : ℕ → Pair
lowest h = record { hash = h; block = 0; offset = 0 }

pub run_start-place : (h : ℕ) (es : List Entry) → ascending pair_of es ≡ true → run_start h es ≡ place_of (lowest h) es
unfolding run_start
run_start-place h es a =
    tally-cong _ (λ (e : Entry). before e.pair (lowest h)) es (λ e. sym (before-hash e.pair h))
    ∙ tally-before (lowest h) es a

-- the codes below h + 1 are those below h and h
run-suc : (h : ℕ) (es : List Entry) → run_start (suc h) es ≡ run_start h es + run_length h es
unfolding run_start run_length
run-suc h [] = refl
run-suc h (e ∷ es) = omega (arith, run-suc h es, one e.pair.hash)
  where
    one : (n : ℕ) → b2n (ltb n (suc h)) ≡ b2n (ltb n h) + b2n (eqb n h)
    one n = go (dec_lt n h) (ℕ_discrete n h)
      where
        go : Dec (n < h) → Dec (n ≡ h) → b2n (ltb n (suc h)) ≡ b2n (ltb n h) + b2n (eqb n h)
        go (yes l) d = rw (lt-ltb n (suc h) (omega arith), lt-ltb n h l, ne_eqb n h (omega arith))
        go (no l) (yes e) = rw (lt-ltb n (suc h) (omega arith), le-ltb n h (omega arith), eq-eqb n h e)
        go (no l) (no e) = rw (le-ltb n (suc h) (omega arith), le-ltb n h (omega arith), ne_eqb n h e)

pub run_end : (h : ℕ) (es : List Entry) → run_start (h + 1) es ≡ run_start h es + run_length h es
run_end h es = rw add-one (run-suc h es)

pub run-le : (h : ℕ) (es : List Entry) → ascending pair_of es ≡ true → run_start h es + run_length h es ≤ length es
run-le h es a = omega (arith, run_end h es, run_start-place (h + 1) es a, place-le (lowest (h + 1)) es)

module _ (h : ℕ) where
  -- after an entry whose code is at least h, no code is below h; after one whose code is above, none is h
  rest-at-least : (e : Entry) (es : List Entry) → h ≤ e.pair.hash → ascending pair_of (e ∷ es) ≡ true
      → run_start h es ≡ 0
  unfolding run_start
  rest-at-least e es l a =
      tally-no (λ (f : Entry). ltb f.pair.hash h) es
      (each_map (λ f. before e.pair f.pair ≡ true) (λ f. ltb f.pair.hash h ≡ false)
      (λ f k. le-ltb f.pair.hash h (omega (arith, before-hash-le e.pair f.pair k)))
      es (ascending-head pair_of e es a))

  rest-above : (e : Entry) (es : List Entry) → h < e.pair.hash → ascending pair_of (e ∷ es) ≡ true
      → Each (λ f. has_code h f ≡ false) es
  rest-above e es l a =
      each_map (λ f. before e.pair f.pair ≡ true) (λ f. has_code h f ≡ false)
      (λ f k. ne_eqb f.pair.hash h (λ j. omega (arith, before-hash-le e.pair f.pair k)))
      es (ascending-head pair_of e es a)

  run-keep : (es : List Entry) → ascending pair_of es ≡ true
      → take (run_length h es) (drop (run_start h es) es) ≡ keep (has_code h) es
  unfolding run_start run_length
  run-keep [] a = refl
  run-keep (e ∷ es) a = go (order e.pair.hash h) (run-keep es (ascending-tail pair_of e es a))
    where
      go : Order e.pair.hash h → take (run_length h es) (drop (run_start h es) es) ≡ keep (has_code h) es
          → take (b2n (has_code h e) + run_length h es) (drop (b2n (ltb e.pair.hash h) + run_start h es) (e ∷ es))
          ≡ cond (has_code h e) (e ∷ keep (has_code h) es) (keep (has_code h) es)
      go (less j) ih =
          rw (lt-ltb e.pair.hash h j, ne_eqb e.pair.hash h (omega arith), zero-add, one-add) ih
      go (equal j) ih =
          let z : run_start h es ≡ 0 = rest-at-least e es (omega arith) a in
          rw (le-ltb e.pair.hash h (omega arith), eq-eqb e.pair.hash h j, z, one-add)
          (ap (λ (r : List Entry). e ∷ r) (rw z at ih))
      go (more j) ih =
          let none = rest-above e es j a in
          let z : run_length h es ≡ 0 = tally-no (has_code h) es none in
          rw (ne_eqb e.pair.hash h (omega arith), z) (sym (keep-none (has_code h) es none))

  -- the k-th entry of the run
  pub run-get_or : (es : List Entry) (k : ℕ) (d : Entry) → ascending pair_of es ≡ true → k < run_length h es
      → get_or es (run_start h es + k) d ≡ get_or (keep (has_code h) es) k d
  run-get_or es k d a l =
      sym (get_or-drop (run_start h es) es k d)
      ∙ sym (get_or-take (run_length h es) (drop (run_start h es) es) k d l)
      ∙ ap (λ (xs : List Entry). get_or xs k d) (run-keep es a)

-- ---- a pair is looked for in the run of its hash code

-- of two pairs with one hash code block and offset decide
pub before-place : (p q : Pair) → p.hash ≡ q.hash → p.offset < 65536 → q.offset < 65536
    → before p q ≡ ltb (reading_key p) (reading_key q)
before-place p q e fp fq =
    lex-equal p.hash q.hash _ e ∙ go (order p.block q.block) (order p.offset q.offset)
  where
    go : Order p.block q.block → Order p.offset q.offset
        → ltb p.block q.block || (eqb p.block q.block && ltb p.offset q.offset)
        ≡ ltb (reading_key p) (reading_key q)
    go (less j) d =
        lex-apart p.block q.block _ (omega arith)
        ∙ lt-ltb p.block q.block j
        ∙ sym (lt-ltb (reading_key p) (reading_key q) (omega (arith, fp, fq)))
    go (more j) d =
        lex-apart p.block q.block _ (omega arith)
        ∙ le-ltb p.block q.block (omega arith)
        ∙ sym (le-ltb (reading_key p) (reading_key q) (omega (arith, fp, fq)))
    go (equal j) (less k) =
        lex-equal p.block q.block _ j
        ∙ lt-ltb p.offset q.offset k
        ∙ sym (lt-ltb (reading_key p) (reading_key q) (omega (arith, j)))
    go (equal j) (equal k) =
        lex-equal p.block q.block _ j
        ∙ le-ltb p.offset q.offset (omega arith)
        ∙ sym (le-ltb (reading_key p) (reading_key q) (omega (arith, j, k)))
    go (equal j) (more k) =
        lex-equal p.block q.block _ j
        ∙ le-ltb p.offset q.offset (omega arith)
        ∙ sym (le-ltb (reading_key p) (reading_key q) (omega (arith, j, k)))

module _ (x : Pair) where
  abbrev run : List Entry → List Entry
  run es = keep (has_code x.hash) es

  -- its place is one among the run's entries, or the run's end
  pub place-run : (es : List Entry) → ascending pair_of es ≡ true
      → place_of x es ≡ run_start x.hash es + place_of x (keep (has_code x.hash) es)
  unfolding run_start place_of
  place-run [] a = refl
  place-run (e ∷ es) a = go (order e.pair.hash x.hash) (place-run es (ascending-tail pair_of e es a))
    where
      go : Order e.pair.hash x.hash → place_of x es ≡ run_start x.hash es + place_of x (run es)
          → cond (before e.pair x) (suc (place_of x es)) 0
          ≡ (b2n (ltb e.pair.hash x.hash) + run_start x.hash es)
          + place_of x (cond (eqb e.pair.hash x.hash) (e ∷ run es) (run es))
      go (less j) ih =
          let b : before e.pair x ≡ true =
          lex-apart e.pair.hash x.hash _ (omega arith) ∙ lt-ltb e.pair.hash x.hash j in
          rw (b, lt-ltb e.pair.hash x.hash j, ne_eqb e.pair.hash x.hash (omega arith))
          (omega (arith, ih))
      go (equal j) ih =
          let z : run_start x.hash es ≡ 0 = rest-at-least x.hash e es (omega arith) a in
          let f : place_of x es ≡ place_of x (run es) = omega (arith, ih, z) in
          let left = ap (λ (n : ℕ). cond (before e.pair x) (suc n) 0) f in
          let right : place_of x (cond (eqb e.pair.hash x.hash) (e ∷ run es) (run es))
          ≡ cond (before e.pair x) (suc (place_of x (run es))) 0 =
          ap (λ (b : Bool). place_of x (cond b (e ∷ run es) (run es))) (eq-eqb e.pair.hash x.hash j) in
          let none = ap b2n (le-ltb e.pair.hash x.hash (omega arith)) in
          omega (arith, left, right, none, z)
      go (more j) ih =
          let b : before e.pair x ≡ false =
          lex-apart e.pair.hash x.hash _ (omega arith) ∙ le-ltb e.pair.hash x.hash (omega arith) in
          let z : run_start x.hash es ≡ 0 = rest-at-least x.hash e es (omega arith) a in
          let none = keep-none (has_code x.hash) es (rest-above x.hash e es j a) in
          let other = ne_eqb e.pair.hash x.hash (omega arith) in
          rw (b, le-ltb e.pair.hash x.hash (omega arith), other, z, none)

  -- it stands among the run's entries or nowhere
  pub any-run : (es : List Entry)
      → any (is x) es ≡ any (is x) (keep (has_code x.hash) es)
  any-run [] = refl
  any-run (e ∷ es) = go (ℕ_discrete e.pair.hash x.hash) (any-run es)
    where
      go : Dec (e.pair.hash ≡ x.hash) → any (is x) es ≡ any (is x) (run es)
          → is x e || any (is x) es ≡ any (is x) (cond (eqb e.pair.hash x.hash) (e ∷ run es) (run es))
      go (yes j) ih = rw (eq-eqb e.pair.hash x.hash j) (ap (λ (b : Bool). is x e || b) ih)
      go (no j) ih =
          rw (ne_eqb e.pair.hash x.hash j, ne_eqb x.hash e.pair.hash (λ i. j (sym i))) ih
