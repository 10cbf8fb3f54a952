-- Searches from a place on, along one list of entries after another.
use Rattle.std.specs.Prelude.{◌≡◌, refl, Bool, true, false, List, [], ◌∷◌, ◌++◌, ℕ, zero, suc, ◌+◌, ◌-◌, ◌≤◌, ◌<◌, length, get_or, take, drop, Option, Some, None}
use Rattle.std.proofs.Common.{sym, ap, ◌∙◌, subst, add-one, arith, take-append-drop, length-append, take_all, take-suc, get_or-append-add}
use Rattle.std.proofs.Math.Option.{none, some}
use Rattle.std.proofs.Math.ListN.{get_or-append}
use Rattle.std.proofs.lemmas.List.{take-append-le}
use Rattle.std.proofs.Math.Seq.{take-append-add}
use Rattle.lists.specs.Lists.{b2n, tally, find}
use Rattle.lists.specs.ListsLaws.{tally-append}
use Rattle.page.specs.declared.Pair.{Pair}
use Rattle.page.specs.declared.Entry.{Entry}
use Rattle.frame.specs.ListsLaws.{find-zero, find-left, find-right}
use Rattle.chain.specs.declared.Found.{Found}
use Rattle.chain.specs.Search.{at_slot}
use Rattle.split.specs.declared.Mover.{Mover}
use Rattle.model.specs.Index.{Index}
use Rattle.split.specs.Mover.{movable}
use Rattle.split.specs.Seek.{Before, After, AnswersFrom, Stands, Seeks, Located, Searches}

module _ (t : Entry → Bool) where
  -- what is not before the place is after it
  pub before-find : (es : List Entry) (k : ℕ) → Before t es k → find t es ≡ find t (drop k es)
  before-find es k z =
      ap (find t) (sym (take-append-drop k es)) ∙ find-right t (take k es) (drop k es) (find-zero t (take k es) z)

  pub before-all : (es : List Entry) (k : ℕ) → length es ≤ k → Before t es k → find t es ≡ none
  before-all es k h z = find-zero t es (ap (tally t) (sym (take_all k es h)) ∙ z)

  pub before-next : (es : List Entry) (k : ℕ) (d : Entry) → k < length es → t (get_or es k d) ≡ false → Before t es k
      → Before t es (k + 1)
  before-next es k d h f z =
      ap (λ (n : ℕ). tally t (take n es)) (add-one k)
      ∙ ap (tally t) (take-suc es k d h)
      ∙ tally-append t (take k es) (get_or es k d ∷ [])
      ∙ omega (arith, ap b2n f)

  -- a place among some entries and others after them, as one among the first
  pub before-left : (es fs : List Entry) (k : ℕ) → Before t (es ++ fs) k → Before t es k
  before-left es fs zero z = refl
  before-left [] fs (suc k) z = refl
  before-left (e ∷ es) fs (suc k) z = omega (arith, before-left es fs k (omega arith))

  -- and past entries before them
  pub before-part : (bs es fs : List Entry) (k : ℕ) → Before t (bs ++ (es ++ fs)) k → Before t es (k - length bs)
  before-part [] es fs k z =
      let e : k - 0 ≡ k = omega arith in ap (λ (n : ℕ). tally t (take n es)) e ∙ before-left es fs k z
  before-part (b ∷ bs) es fs zero z =
      let e : 0 - suc (length bs) ≡ 0 = omega arith in ap (λ (n : ℕ). tally t (take n es)) e
  before-part (b ∷ bs) es fs (suc k) z =
      let e : suc k - suc (length bs) ≡ k - length bs = omega arith in
      ap (λ (n : ℕ). tally t (take n es)) e ∙ before-part bs es fs k (omega arith)

  -- what was found among them was found in all
  pub sought-part : (bs es fs : List Entry) (e : Entry) (k : ℕ) → tally t bs ≡ 0
      → (find t es ≡ some e) × Stands t es e k
      → (find t (bs ++ (es ++ fs)) ≡ some e) × Stands t (bs ++ (es ++ fs)) e (length bs + k)
  sought-part bs es fs e k z (f, s) = (
    find-right t bs (es ++ fs) (find-zero t bs z) ∙ find-left t es fs e f,
    record {
      inside = omega (arith, s.inside, length-append bs (es ++ fs), length-append es fs);
      here = get_or-append-add bs (es ++ fs) k e ∙ get_or-append es fs e k s.inside ∙ s.here;
      first =
          ap (tally t) (take-append-add bs (es ++ fs) k)
          ∙ tally-append t bs (take k (es ++ fs))
          ∙ omega (arith, ap (tally t) (take-append-le k es fs (omega (arith, s.inside))), s.first);
    },
  )

  -- ---- where none from a place on passes

  pub after-at : (es : List Entry) (k i : ℕ) (d : Entry) → After t es k → k ≤ i → i < length es
      → t (get_or es i d) ≡ false
  after-at [] k i d z h l = absurd (omega arith)
  after-at (e ∷ es) zero zero d z h l = go (t e) (omega arith)
    where
      go : (b : Bool) → b2n b ≡ 0 → b ≡ false
      go true q = absurd (omega arith)
      go false q = refl
  after-at (e ∷ es) zero (suc i) d z h l = after-at es zero i d (omega arith) (omega arith) (omega arith)
  after-at (e ∷ es) (suc k) zero d z h l = absurd (omega arith)
  after-at (e ∷ es) (suc k) (suc i) d z h l = after-at es k i d z (omega arith) (omega arith)

  pub after_more : (es : List Entry) (k j : ℕ) → k ≤ j → After t es k → After t es j
  after_more es zero zero h z = z
  after_more [] zero (suc j) h z = refl
  after_more (e ∷ es) zero (suc j) h z = after_more es zero j (omega arith) (omega arith)
  after_more es (suc k) zero h z = absurd (omega arith)
  after_more [] (suc k) (suc j) h z = refl
  after_more (e ∷ es) (suc k) (suc j) h z = after_more es k j (omega arith) z

  -- behind the only one that passes
  pub after-only : (es : List Entry) (k : ℕ) (d : Entry) → k < length es → t (get_or es k d) ≡ true → tally t es ≤ 1
      → After t es (suc k)
  after-only [] k d l h z = absurd (omega arith)
  after-only (e ∷ es) zero d l h z = omega (arith, ap b2n h)
  after-only (e ∷ es) (suc k) d l h z = after-only es k d (omega arith) h (omega arith)

  pub after-left : (es fs : List Entry) (k : ℕ) → After t (es ++ fs) k → After t es k
  after-left es fs zero z = omega (arith, tally-append t es fs)
  after-left [] fs (suc k) z = refl
  after-left (e ∷ es) fs (suc k) z = after-left es fs k z

  pub after-part : (bs es fs : List Entry) (k : ℕ) → After t (bs ++ (es ++ fs)) k → After t es (k - length bs)
  after-part [] es fs k z =
      let e : k - 0 ≡ k = omega arith in ap (λ (n : ℕ). tally t (drop n es)) e ∙ after-left es fs k z
  after-part (b ∷ bs) es fs zero z =
      let e : 0 - suc (length bs) ≡ 0 - length bs = omega arith in
      ap (λ (n : ℕ). tally t (drop n es)) e ∙ after-part bs es fs zero (omega arith)
  after-part (b ∷ bs) es fs (suc k) z =
      let e : suc k - suc (length bs) ≡ k - length bs = omega arith in
      ap (λ (n : ℕ). tally t (drop n es)) e ∙ after-part bs es fs k z

  -- one that passes stands behind a place before which none does
  pub before-from : (es : List Entry) (k i : ℕ) (d : Entry) → Before t es k → i < length es → t (get_or es i d) ≡ true
      → k ≤ i
  before-from es zero i d z l h = omega arith
  before-from [] (suc k) i d z l h = absurd (omega arith)
  before-from (e ∷ es) (suc k) zero d z l h = absurd (omega (arith, ap b2n h))
  before-from (e ∷ es) (suc k) (suc i) d z l h = omega (arith, before-from es k i d (omega arith) (omega arith) h)

-- ---- what was found

module _ (t : Entry → Bool) (es : List Entry) {r : Option Mover} (found : Seeks t es r) where
  pub seeks-at : {v : Mover} → r ≡ Some v → Seeks t es (Some v)
  seeks-at h = subst (Seeks t es) h found

  pub seeks-entry : {v : Mover} → r ≡ Some v → find t es ≡ some v.entry
  seeks-entry h = (subst (Seeks t es) h found).0

  pub seeks-place : {v : Mover} → r ≡ Some v → Stands t es v.entry v.place
  seeks-place h = (subst (Seeks t es) h found).1

  pub seeks-none : r ≡ None → find t es ≡ none
  seeks-none h = subst (Seeks t es) h found

pub located-at : (f : Pair → Option Found) {r : Option Mover} → Located f r → {v : Mover} → r ≡ Some v
    → f v.entry.pair ≡ at_slot v.block v.slot
located-at f found h = subst (Located f) h found

-- where another search finds the same
pub located-as : {f : Pair → Option Found} (r : Option Mover) → Located f r → (g : Pair → Option Found) → ((p : Pair) → f p ≡ g p)
    → Located g r
located-as (Some v) h g same = sym (same v.entry.pair) ∙ h
located-as None h g same = tt

-- and among entries that are the same
pub searches-as : (post : Entry → Bool → Type 0) (x : Index) (f g : Pair → Option Found) (k : ℕ) (r : Option Mover)
    → {es ds : List Entry} → es ≡ ds → ((p : Pair) → f p ≡ g p) → Searches post x es f k r → Searches post x ds g k r
searches-as post x f g k r e same h c z a =
    let found =
    h c (subst (λ (ls : List Entry). Before (movable c x) ls k) (sym e) z)
    (subst (λ (ls : List Entry). AnswersFrom post (movable c x) ls k) (sym e) a) in
    (subst (λ (ls : List Entry). Seeks (movable c x) ls r) e found.0, located-as r found.1 g same)
