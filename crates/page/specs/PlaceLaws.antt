-- The sorted place of a pair: before it stand the entries that come before the pair, from it on the others.
use Rattle.std.specs.Prelude.{◌≡◌, Bool, ◌&&◌, ◌||◌, ltb, get_or, take, drop}
use Rattle.std.proofs.Math.Path.{refl, ap}
use Rattle.std.proofs.Common.{sym, ◌∙◌, lt-ltb}
use Rattle.std.proofs.Math.Bool.{true, false, cond, not}
use mathlib.Core.List.{List, [], ◌∷◌}
use Prim.Native.Nat.{ℕ, zero, suc, ◌+◌, ◌≤◌, ◌<◌}
use native.Mathlib.Omega.{arith}
use Rattle.std.proofs.Math.Dec.{leb-suc-suc}
use Rattle.std.proofs.Math.ListN.{length}
use Rattle.lists.specs.Lists.{b2n, any, tally, keep, Each}
use Rattle.lists.specs.ListsLaws.{zero-any}
use Rattle.page.specs.declared.Pair.{Pair}
use Rattle.page.specs.declared.Entry.{Entry}
use Rattle.page.specs.Pair.{before, pair_of, is, enter, ascending}
use Rattle.page.specs.PairLaws.{no_way, same-sym, before-irrefl, before-trans, before_same, before-le}
use Rattle.page.specs.Places.{place_of, remove_at, insert_at}
use Rattle.page.specs.SublistLaws.{each-get_or, each_map, tally-no, keep_all}
use Rattle.page.specs.AscendingLaws.{ascending-tail, ascending-head, ascending-enter}

pub place-le : (p : Pair) (es : List Entry) → place_of p es ≤ length es
unfolding place_of
place-le p [] = omega arith
place-le p (e ∷ es) = go (before e.pair p) (place-le p es)
  where
    go : (b : Bool) → place_of p es ≤ length es → cond b (suc (place_of p es)) 0 ≤ suc (length es)
    go true ih = omega arith
    go false ih = omega arith

-- an entry of an ascending list stands at its pair's place
pub place_at : (es : List Entry) (k : ℕ) (d : Entry) → ascending pair_of es ≡ true → k < length es
    → place_of (get_or es k d).pair es ≡ k
unfolding place_of
place_at [] k d a l = absurd (omega arith)
place_at (e ∷ es) zero d a l = rw (before-irrefl e.pair) refl
place_at (e ∷ es) (suc k) d a l =
    let up : before e.pair (get_or es k d).pair ≡ true =
    each-get_or (λ f. before e.pair f.pair ≡ true) es k d (ascending-head pair_of e es a) (omega arith) in
    rw up (ap suc (place_at es k d (ascending-tail pair_of e es a) (omega arith)))

-- entering an entry is putting it into the slot of its place
pub enter-insert_at : (e : Entry) (es : List Entry) → enter pair_of e es ≡ insert_at (place_of e.pair es) e es
unfolding insert_at place_of
enter-insert_at e [] = refl
enter-insert_at e (f ∷ es) = go (before f.pair e.pair) (enter-insert_at e es)
  where
    go : (b : Bool) → enter pair_of e es ≡ insert_at (place_of e.pair es) e es
        → cond b (f ∷ enter pair_of e es) (e ∷ f ∷ es) ≡ insert_at (cond b (suc (place_of e.pair es)) 0) e (f ∷ es)
    go true ih = ap (λ (l : List Entry). f ∷ l) ih
    go false ih = refl

pub ascending-insert_at : (e : Entry) (es : List Entry) → tally (is e.pair) es ≡ 0 → ascending pair_of es ≡ true
    → ascending pair_of (insert_at (place_of e.pair es) e es) ≡ true
ascending-insert_at e es z a = rw (← enter-insert_at e es) (ascending-enter pair_of e es z a)

-- ---- the entries before the place, and those from it on

pub place-take : (p : Pair) (es : List Entry) → Each (λ e. before e.pair p ≡ true) (take (place_of p es) es)
unfolding place_of
place-take p [] = tt
place-take p (e ∷ es) = go (before e.pair p) refl (place-take p es)
  where
    go : (b : Bool) → before e.pair p ≡ b → Each (λ f. before f.pair p ≡ true) (take (place_of p es) es)
        → Each (λ f. before f.pair p ≡ true) (take (cond b (suc (place_of p es)) 0) (e ∷ es))
    go true h ih = (h, ih)
    go false h ih = tt

module _ (p : Pair) where
  -- no entry comes before the pair
  abbrev pub Behind : List Entry → Type 0
  Behind es = Each (λ e. before e.pair p ≡ false) es

  -- an entry that does not come before the pair has none after it that does
  rest-behind : (e : Entry) (es : List Entry) → before e.pair p ≡ false → ascending pair_of (e ∷ es) ≡ true
      → Behind es
  rest-behind e es h a =
      each_map (λ f. before e.pair f.pair ≡ true) (λ f. before f.pair p ≡ false)
      (λ f k. go f.pair k (before f.pair p) refl) es (ascending-head pair_of e es a)
    where
      go : (q : Pair) → before e.pair q ≡ true → (b : Bool) → before q p ≡ b → b ≡ false
      go q k false j = refl
      go q k true j = no_way (before-trans e.pair q p k j) h

  pub place-drop : (es : List Entry) → ascending pair_of es ≡ true → Behind (drop (place_of p es) es)
  unfolding place_of
  place-drop [] a = tt
  place-drop (e ∷ es) a = go (before e.pair p) refl (place-drop es (ascending-tail pair_of e es a))
    where
      go : (b : Bool) → before e.pair p ≡ b → Behind (drop (place_of p es) es)
          → Behind (drop (cond b (suc (place_of p es)) 0) (e ∷ es))
      go true h ih = ih
      go false h ih = (h, rest-behind e es h a)

  -- the place is the number of entries that come before the pair
  pub tally-before : (es : List Entry) → ascending pair_of es ≡ true → tally (λ e. before e.pair p) es ≡ place_of p es
  unfolding place_of
  tally-before [] a = refl
  tally-before (e ∷ es) a = go (before e.pair p) refl (tally-before es (ascending-tail pair_of e es a))
    where
      go : (b : Bool) → before e.pair p ≡ b → tally (λ f. before f.pair p) es ≡ place_of p es
          → b2n b + tally (λ f. before f.pair p) es ≡ cond b (suc (place_of p es)) 0
      go true h ih = omega arith
      go false h ih = omega (arith, tally-no (λ f. before f.pair p) es (rest-behind e es h a))

  -- one entry tells on which side of it the place is
  pub place-above : (es : List Entry) (k : ℕ) (d : Entry) → ascending pair_of es ≡ true → k < length es
      → before (get_or es k d).pair p ≡ true → k < place_of p es
  unfolding place_of
  place-above [] k d a l h = absurd (omega arith)
  place-above (e ∷ es) zero d a l h = rw h (omega arith)
  place-above (e ∷ es) (suc k) d a l h =
      go (before e.pair p) refl (place-above es k d (ascending-tail pair_of e es a) (omega arith) h)
    where
      go : (b : Bool) → before e.pair p ≡ b → k < place_of p es → suc k < cond b (suc (place_of p es)) 0
      go true j ih = omega arith
      go false j ih =
          no_way h (each-get_or (λ f. before f.pair p ≡ false) es k d (rest-behind e es j a) (omega arith))

  pub place-below : (es : List Entry) (k : ℕ) (d : Entry) → k < length es
      → before (get_or es k d).pair p ≡ false → place_of p es ≤ k
  unfolding place_of
  place-below [] k d l h = omega arith
  place-below (e ∷ es) zero d l h = rw h (omega arith)
  place-below (e ∷ es) (suc k) d l h = go (before e.pair p) (place-below es k d (omega arith) h)
    where
      go : (b : Bool) → place_of p es ≤ k → cond b (suc (place_of p es)) 0 ≤ suc k
      go true ih = omega arith
      go false ih = omega arith

  -- ---- a pair that stands in the list stands at its place

  -- the entries after one that has the pair, or that comes after it, have it not
  rest-not : (e : Entry) (es : List Entry) → before e.pair p ≡ false → ascending pair_of (e ∷ es) ≡ true
      → Each (λ f. is p f ≡ false) es
  rest-not e es h a =
      each_map (λ f. before e.pair f.pair ≡ true) (λ f. is p f ≡ false)
      (λ f k. before_same p f.pair (before-le p e.pair f.pair h k)) es (ascending-head pair_of e es a)

  -- an entry that comes before the pair has it not
  front-not : (e : Entry) → before e.pair p ≡ true → is p e ≡ false
  front-not e h = same-sym p e.pair ∙ before_same e.pair p h

  pub place-any : (es : List Entry) (d : Entry) → ascending pair_of es ≡ true
      → any (is p) es ≡ ltb (place_of p es) (length es) && is p (get_or es (place_of p es) d)
  unfolding place_of
  place-any [] d a = refl
  place-any (e ∷ es) d a = go (before e.pair p) refl (place-any es d (ascending-tail pair_of e es a))
    where
      or-false : (b : Bool) → b || false ≡ b
      or-false true = refl
      or-false false = refl

      go : (b : Bool) → before e.pair p ≡ b
          → any (is p) es ≡ ltb (place_of p es) (length es) && is p (get_or es (place_of p es) d)
          → is p e || any (is p) es
          ≡ ltb (cond b (suc (place_of p es)) 0) (suc (length es))
          && is p (get_or (e ∷ es) (cond b (suc (place_of p es)) 0) d)
      go true h ih = rw (front-not e h, leb-suc-suc (suc (place_of p es)) (length es)) ih
      go false h ih =
          rw (zero-any (is p) es (tally-no (is p) es (rest-not e es h a)), lt-ltb 0 (suc (length es)) (omega arith))
          (or-false (is p e))

  -- taking the entry at the place away is keeping the entries with another pair
  pub remove_at-keep : (es : List Entry) (d : Entry) → ascending pair_of es ≡ true → place_of p es < length es
      → is p (get_or es (place_of p es) d) ≡ true → remove_at (place_of p es) es ≡ keep (λ e. not (is p e)) es
  unfolding place_of remove_at
  remove_at-keep [] d a l h = absurd (omega arith)
  remove_at-keep (e ∷ es) d a l h =
      go (before e.pair p) refl l h (remove_at-keep es d (ascending-tail pair_of e es a))
    where
      go : (b : Bool) → before e.pair p ≡ b → cond b (suc (place_of p es)) 0 < suc (length es)
          → is p (get_or (e ∷ es) (cond b (suc (place_of p es)) 0) d) ≡ true
          → (place_of p es < length es → is p (get_or es (place_of p es) d) ≡ true
          → remove_at (place_of p es) es ≡ keep (λ f. not (is p f)) es)
          → remove_at (cond b (suc (place_of p es)) 0) (e ∷ es)
          ≡ cond (not (is p e)) (e ∷ keep (λ f. not (is p f)) es) (keep (λ f. not (is p f)) es)
      go true j l h ih = rw (front-not e j) (ap (λ (r : List Entry). e ∷ r) (ih (omega arith) h))
      go false j l h ih =
          rw h
          (sym (keep_all (λ f. not (is p f)) es
          (each_map (λ f. is p f ≡ false) (λ f. not (is p f) ≡ true) (λ f k. ap not k) es (rest-not e es j a))))
