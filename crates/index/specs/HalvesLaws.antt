-- What the first half of a call answers, by what its tests find; where the n-th block store of a plan writes.
use Rattle.model.specs.declared.LentError.{LentError}
use Rattle.model.specs.declared.Place.{Place}
use Rattle.std.specs.Prelude.{◌≡◌, refl, Bool, true, false, cond, ◌&&◌, List, [], ℕ, ◌+◌, ◌*◌, ◌≤◌, ◌<◌, leb, ltb, length}
use Rattle.std.specs.Prelude.{Ok, Err}
use Rattle.std.proofs.Common.{sym, ap, ◌∙◌, subst, arith, leb-true, ltb-true, le-leb, lt-ltb, le-ltb, eq-eqb}
use Rattle.std.proofs.lemmas.Bool.{lt-leb}
use Rattle.lists.specs.ListsLaws.{and_left, and_right}
use Rattle.lists.specs.Block.{blocks}
use Rattle.page.specs.declared.Pair.{Pair}
use Rattle.model.specs.declared.Refusal.{Refusal}
use Rattle.model.specs.Index.{Index}
use Rattle.model.specs.Steps.{Step, next, stopped}
use Rattle.model.specs.Machine.{Kind}
use Rattle.model.specs.Calls.{Result, done, refused, pair_ok}
use Rattle.model.proofs.MachineLaws.{never}
use Rattle.image.specs.Decode.{decode}
use Rattle.image.specs.Rules.{length_ok}
use Rattle.outcomes.specs.Outcomes.{Tested, passed, step_store}
use Rattle.journal.specs.Journal.{Disk, BlockStore, disk, do_store}
use Rattle.journal.specs.Planned.{plan_count, plan_name, plan_store}
use Rattle.journal.specs.NthLaws.{nth-image, nth-head, nth_end, nth-page, nth-wipe}
use Rattle.cuts.specs.Journalled.{tested_with}
use Rattle.cuts.specs.Halves.{Planned, answering, planned_as, plan_change, planned_step, plan_step, unless_short}
use Rattle.cuts.specs.Halves.{place_of, place_ok, store_ok, store_in, store_outcome}
use Rattle.index.specs.Tested.{test_of, PairAnswer}
use Rattle.index.specs.Halves.{PlaceFound, planned_place}
use Rattle.index.specs.TestedLaws.{failed-is}
use Rattle.index.specs.Ready.{PairReady}

-- ---- the buffer's length

pub too_short : (b : List ℕ) (p : Planned) → length b < 5632
    → unless_short b p ≡ record { answer = Err LentError.Short; plan = b }
too_short b p h = ap (λ (t : Bool). cond t p (answering b (Err LentError.Short))) (lt-leb 5632 (length b) h)

module _ (b : List ℕ) (long : 5632 ≤ length b) where
  long-enough : (p : Planned) → unless_short b p ≡ p
  long-enough p = ap (λ (t : Bool). cond t p (answering b (Err LentError.Short))) (le-leb 5632 (length b) long)

  -- ---- a call with a pair

  tested-is : (f : Index → Result) (d : Disk) (n : Bool) {u : Tested} → tested_with n d ≡ u
      → unless_short b (plan_change (tested_with n d) f d b) ≡ plan_change u f d b
  tested-is f d n e = long-enough _ ∙ ap (λ (u : Tested). plan_change u f d b) e

  module _ (f : Index → Pair → Result) (s j : List ℕ) (p : Pair) {t : PairAnswer} (found : PairReady (disk s j) p t) where
    pub call-refused : {r : Refusal} → t ≡ Err r
        → unless_short b (plan_change (tested_with (pair_ok p) (disk s j)) (λ x. f x p) (disk s j) b)
        ≡ record { answer = Err (LentError.Refused r); plan = b }
    call-refused e = tested-is (λ x. f x p) (disk s j) (pair_ok p) (subst (PairReady (disk s j) p) e found)

    -- the journal is not looked at any more
    pub call-passed : {q : Pair} → t ≡ Ok q → {r : Planned}
        → planned_as (disk s []) b (f (decode s) q) ≡ r
        → unless_short b (plan_change (tested_with (pair_ok p) (disk s j)) (λ x. f x p) (disk s j) b) ≡ r
    call-passed {q} e h =
        let g : PairReady (disk s j) p (Ok q) = subst (PairReady (disk s j) p) e found in
        tested-is (λ x. f x p) (disk s j) (pair_ok p) g.4
        ∙ ap (λ (q : Pair). planned_as (disk s j) b (f (decode s) q)) (sym g.0)
        ∙ any (f (decode s) q)
        ∙ h
      where
        any : (r : Result) → planned_as (disk s j) b r ≡ planned_as (disk s []) b r
        any (done y) = refl
        any (refused r) = refl

  -- ---- a step

  module _ (k : Kind) (s j : List ℕ) (t : Tested) where
    pub step-refused : (r : Refusal) → test_of t ≡ Err r
        → unless_short b (plan_step t k (disk s j) b) ≡ record { answer = Err (LentError.Refused r); plan = b }
    step-refused r e =
        long-enough _ ∙ ap (λ (u : Tested). plan_step u k (disk s j) b) (failed-is t r e)

    pub step-passed : t ≡ passed (decode s) → {r : Planned} → planned_step (disk s []) b (step_store k s) ≡ r
        → unless_short b (plan_step t k (disk s j) b) ≡ r
    step-passed e h =
        long-enough _ ∙ ap (λ (u : Tested). plan_step u k (disk s j) b) e ∙ any (step_store k s) ∙ h
      where
        any : (r : Step (List ℕ)) → planned_step (disk s j) b r ≡ planned_step (disk s []) b r
        any (next t) = refl
        any (stopped r) = refl

-- ---- where the n-th block store of a plan of m images writes

module _ (s p : List ℕ) (n m : ℕ) (e : m ≡ plan_count p) where
  abbrev answer_in : (some few below : Bool) → BlockStore → PlaceFound
  answer_in a b c q =
      cond (a && (b && (c && place_ok q (blocks s)))) (Ok (place_of q)) (Err Refusal.Number)

  answer-is : {a b c : Bool} {q : BlockStore} → leb 1 (plan_count p) ≡ a → leb (plan_count p) 8 ≡ b
      → ltb n (2 * plan_count p + 3) ≡ c → plan_store p n ≡ q
      → answer_in a b c q ≡ planned_place s p n
  answer-is ea eb ec eq = λ i. answer_in (sym ea i) (sym eb i) (sym ec i) (sym eq i)

  pub place_none : m ≡ 0 → Err Refusal.Number ≡ planned_place s p n
  place_none z = answer-is (lt-leb 1 (plan_count p) (omega arith)) refl refl refl

  module _ (some : 1 ≤ m) where
    one : leb 1 (plan_count p) ≡ true
    one = le-leb 1 (plan_count p) (omega arith)

    pub place-many : 8 < m → Err Refusal.Number ≡ planned_place s p n
    place-many h = answer-is one (lt-leb (plan_count p) 8 (omega arith)) refl refl

    module _ (few : m ≤ 8) where
      eight : leb (plan_count p) 8 ≡ true
      eight = le-leb (plan_count p) 8 (omega arith)

      pub place-past : 2 * m + 3 ≤ n → Err Refusal.Number ≡ planned_place s p n
      place-past h = answer-is one eight (le-ltb n (2 * plan_count p + 3) (omega arith)) refl

      module _ (below : n < 2 * m + 3) where
        there : {q : BlockStore} → plan_store p n ≡ q
            → answer_in true true true q ≡ planned_place s p n
        there = answer-is one eight (lt-ltb n (2 * plan_count p + 3) (omega arith))

        pub place-image : n < m → Ok (Place.Journal (n + 1)) ≡ planned_place s p n
        place-image h =
            let z : n + 1 ≡ 1 + n = omega arith in
            ap (λ (i : ℕ). Ok (Place.Journal i)) z ∙ there (nth-image p n (omega arith))

        pub place-head : n ≡ m → Ok (Place.Journal 0) ≡ planned_place s p n
        place-head h = there (nth-head p n (h ∙ e))

        pub place_end : n ≡ m + 1 → Ok (Place.Journal 15) ≡ planned_place s p n
        place_end h = there (nth_end p n (omega arith))

        pub place-wipe : n ≡ 2 * m + 2 → Ok (Place.Journal 0) ≡ planned_place s p n
        place-wipe h = there (nth-wipe p n (omega arith))

        -- a block of the store, named k
        module _ (l k : ℕ) (at : n ≡ m + (2 + l)) (name : k ≡ plan_name p l) (inside : l < m) where
          page-is : {t : Bool} → ltb k (blocks s) ≡ t
              → cond t (Ok (Place.Store k)) (Err Refusal.Number) ≡ planned_place s p n
          page-is h =
              ap (λ (t : Bool). cond t (Ok (Place.Store k)) (Err Refusal.Number)) (sym h)
              ∙ ap
              (λ (k : ℕ). cond (ltb k (blocks s)) (Ok (Place.Store k)) (Err Refusal.Number))
              name
              ∙ there (nth-page p n l (omega arith) (omega arith))

          pub place-outside : blocks s ≤ k → Err Refusal.Number ≡ planned_place s p n
          place-outside h = page-is (le-ltb k (blocks s) h)

          pub place-page : k < blocks s → Ok (Place.Store k) ≡ planned_place s p n
          place-page h = page-is (lt-ltb k (blocks s) h)

-- ---- the second half

module _ (s j p : List ℕ) (n : ℕ) where
  -- a place that was found: the n-th block store is there, and inside

  pub place-there : {r : PlaceFound} {a : Place} → r ≡ planned_place s p n → r ≡ Ok a → store_ok (disk s j) p n ≡ true
  place-there {r} {a} f e = go (store_ok (disk s j) p n) f
    where
      go : (t : Bool) → r ≡ cond t (Ok (place_of (plan_store p n))) (Err Refusal.Number) → t ≡ true
      go true f = refl
      go false f = never (cc)

  module _ (ok : store_ok (disk s j) p n ≡ true) where
    rest : leb (plan_count p) 8 && (ltb n (2 * plan_count p + 3) && place_ok (plan_store p n) (blocks s)) ≡ true
    rest = and_right (leb 1 (plan_count p)) _ ok

    rest-2 : ltb n (2 * plan_count p + 3) && place_ok (plan_store p n) (blocks s) ≡ true
    rest-2 = and_right (leb (plan_count p) 8) _ rest

    pub place-few : plan_count p ≤ 8
    place-few = leb-true (plan_count p) 8 (and_left (leb (plan_count p) 8) _ rest)

    pub place-below : n < 2 * plan_count p + 3
    place-below = ltb-true n (2 * plan_count p + 3) (and_left (ltb n (2 * plan_count p + 3)) _ rest-2)

    pub place_inside : length s ≡ 512 * blocks s → (i : ℕ) → i < plan_count p → n ≡ plan_count p + 2 + i
        → 512 * plan_name p i + 512 ≤ length s
    place_inside whole i h e =
        let q = nth-page p n i (omega arith) h in
        let k : place_ok (plan_store p n) (blocks s) ≡ true = and_right (ltb n (2 * plan_count p + 3)) _ rest-2 in
        let l : ltb (plan_name p i) (blocks s) ≡ true =
        ap (λ (x : BlockStore). place_ok x (blocks s)) (sym q) ∙ k in
        omega (arith, ltb-true (plan_name p i) (blocks s) l, whole)

  -- and what the outcome is

  module _ (long : 5632 ≤ length p) (legal : length_ok s ≡ true) (sixteen : length j ≡ 8192) where
    outcome-is : {t : Bool} → store_ok (disk s j) p n ≡ t
        → store_outcome (disk s j) p n ≡ store_in true true true t (disk s j) p n
    unfolding store_outcome
    outcome-is f =
        λ i. store_in (le-leb 5632 (length p) long i) (legal i) (eq-eqb (length j) 8192 sixteen i) (f i) (disk s j) p n

    module _ {r : PlaceFound} (found : r ≡ planned_place s p n) where
      pub store-done : {a : Place} → r ≡ Ok a → {d : Disk} → do_store (plan_store p n) (disk s j) ≡ d
          → store_outcome (disk s j) p n ≡ record { answer = Ok a; disk = d }
      store-done {a} e {d} f =
          let ok = place-there found e in
          let made : Ok (place_of (plan_store p n)) ≡ r =
          sym (found ∙ ap (λ (t : Bool). cond t (Ok (place_of (plan_store p n))) (Err Refusal.Number)) ok) in
          let is : place_of (plan_store p n) ≡ a = cc in
          outcome-is ok ∙ (λ i. record { answer = Ok (is i); disk = f i })

      pub store-refused : {u : Refusal} → r ≡ Err u
          → store_outcome (disk s j) p n ≡ record { answer = Err (LentError.Refused u); disk = disk s j }
      store-refused {u} e = go (store_ok (disk s j) p n) refl found
        where
          go : (t : Bool) → store_ok (disk s j) p n ≡ t
              → r ≡ cond t (Ok (place_of (plan_store p n))) (Err Refusal.Number)
              → store_outcome (disk s j) p n ≡ record { answer = Err (LentError.Refused u); disk = disk s j }
          go false o f =
              let same : Refusal.Number ≡ u = cc in
              outcome-is o ∙ (λ i. record { answer = Err (LentError.Refused (same i)); disk = disk s j })
          go true o f = never (cc)
