-- Each step of a job takes one off the steps that are left.
use Rattle.std.specs.Prelude.{◌≡◌, refl, ◌≢◌, Bool, true, false, not, ◌&&◌, ◌||◌, List}
use Rattle.std.proofs.Common.{sym, ◌∙◌, subst, arith}
use Rattle.std.proofs.Math.Path.{ap}
use Rattle.std.proofs.Math.Option.{some}
use Prim.Native.Nat.{ℕ, suc, ◌+◌, ◌≤◌}
use Rattle.std.proofs.Math.Dec.{eqb}
use Rattle.lists.specs.Lists.{b2n, any, tally, find}
use Rattle.lists.specs.ListsLaws.{tally-cong, find-no, find-yes}
use Rattle.page.specs.declared.Pair.{Pair}
use Rattle.page.specs.declared.Entry.{Entry}
use Rattle.page.specs.Pair.{same, is}
use Rattle.page.specs.PairLaws.{same_refl, same-sym}
use Rattle.model.specs.Index.{Job, idle, copying, clearing, Index, entries_in, chain, entries_at, bucket}
use Rattle.model.specs.Index.{new_bucket, old_bucket, set_chain, set_job}
use Rattle.model.specs.Pages.{without, cut}
use Rattle.model.specs.Steps.{next, moves, to_copy, step}
use Rattle.model.specs.WellFormed.{WF}
use Rattle.model.specs.TallyLaws.{any-more}
use Rattle.model.specs.PairTallyLaws.{tally-with}
use Rattle.model.specs.ChainLaws.{tally-without}
use Rattle.model.specs.StandLaws.{number-here, chain-there}
use Rattle.model.proofs.HeldLaws.{old-new, old-range, new-range, is-parts}
use Rattle.model.proofs.ViewLaws.{moved_entry, PutAs, put_as, Stepping, began, copied, copied_all, cleared}
use Rattle.model.proofs.ViewLaws.{cleared_all, step-view}
use Rattle.model.specs.StepsLeft.{old_entries, steps_in, steps_left}
use Rattle.model.specs.Steps.{copies_left}

-- ---- one entry less

-- a pair that stands once, found by a test on pairs: without it one entry less passes
tally-less : (g : Pair → Bool) (es : List Entry) (e : Entry) → find (λ d. g d.pair) es ≡ some e
    → tally (is e.pair) es ≤ 1
    → suc (tally (λ d. not (is e.pair d) && g d.pair) es) ≡ tally (λ d. g d.pair) es
tally-less g es e k once =
    let f = find-yes (λ d. g d.pair) es e k in
    omega (arith, tally-with g e.pair es f.0, f.1 (is e.pair), ap b2n (same_refl e.pair))

module _ (x : Index) (w : WF x) where
  -- no pair stands twice in a chain
  pub stands-once : (p : Pair) (b : ℕ) → tally (is p) (entries_at x b) ≤ 1
  stands-once p b = omega (arith, is-parts p (entries_at x b), (w.placed p).once b)

  -- ---- a copy made

  copies-fewer : {y : Index} (e : Entry) → find (to_copy x) (entries_at x (old_bucket x)) ≡ some e
      → PutAs x (new_bucket x) (moved_entry e.pair) y
      → (suc (copies_left y) ≡ copies_left x) × (old_entries y ≡ old_entries x)
  copies-fewer e k a =
      subst (λ (z : Index). (suc (copies_left z) ≡ copies_left x) × (old_entries z ≡ old_entries x)) (sym a.index)
      (fewer, ap (tally (moves x)) there)
    where
      n : ℕ
      n = new_bucket x

      o : ℕ
      o = old_bucket x

      y : Index
      y = set_chain x a.spares n a.pages

      there : entries_at y o ≡ entries_at x o
      there = ap entries_in (chain-there x a.spares n a.pages (new-range x w.laid) o (old-new x w.laid))

      has : (p : Pair) → any (is p) (entries_at y n) ≡ same p e.pair || any (is p) (entries_at x n)
      has p =
          any-more (is p) (entries_at x n) (entries_at y n) (same p e.pair)
          (number-here x a.spares n a.pages (new-range x w.laid) (is p) ∙ a.numbers (is p))

      and-or : (b c d : Bool) → b && not (c || d) ≡ not c && (b && not d)
      and-or true true d = refl
      and-or true false d = refl
      and-or false true d = refl
      and-or false false d = refl

      test : (p : Pair)
          → eqb (bucket x p) n && not (any (is p) (entries_at y n))
          ≡ not (same e.pair p) && (eqb (bucket x p) n && not (any (is p) (entries_at x n)))
      test p =
          rw (has p, same-sym e.pair p)
          (and-or (eqb (bucket x p) n) (same p e.pair) (any (is p) (entries_at x n)))

      fewer : suc (copies_left y) ≡ copies_left x
      fewer =
          ap suc (ap (tally (to_copy y)) there ∙ tally-cong _ _ (entries_at x o) (λ d. test d.pair))
          ∙ tally-less (λ p. eqb (bucket x p) n && not (any (is p) (entries_at x n))) (entries_at x o) e k
          (stands-once e.pair o)

  -- ---- an old entry taken away

  old-fewer : (e : Entry) → find (moves x) (entries_at x (old_bucket x)) ≡ some e
      → suc (old_entries (cut e.pair (old_bucket x) x)) ≡ old_entries x
  unfolding cut
  old-fewer e k =
      ap suc (number-here x x.spares o (without e.pair (chain x o)) (old-range x w.laid) (moves x)
      ∙ tally-without (moves x) e.pair (chain x o))
      ∙ tally-less (λ p. eqb (bucket x p) (new_bucket x)) (entries_at x o) e k (stands-once e.pair o)
    where
      o : ℕ
      o = old_bucket x

-- ---- each step of a job takes one off

pub steps_left-at : (x : Index) (j : Job) → x.job ≡ j → steps_left x ≡ steps_in j x
unfolding steps_left
steps_left-at x j e = ap (λ (k : Job). steps_in k x) e

-- the steps stay where what they are counted by does
pub steps_left-same : (x y : Index) → y.job ≡ x.job → old_entries y ≡ old_entries x
    → (x.job ≡ copying → copies_left y ≡ copies_left x) → steps_left y ≡ steps_left x
steps_left-same x y e o c = go x.job refl
  where
    go : (j : Job) → x.job ≡ j → steps_left y ≡ steps_left x
    go idle k = steps_left-at y idle (e ∙ k) ∙ sym (steps_left-at x idle k)
    go copying k = omega (arith, steps_left-at y copying (e ∙ k), steps_left-at x copying k, o, c k)
    go clearing k = omega (arith, steps_left-at y clearing (e ∙ k), steps_left-at x clearing k, o)

pub step-steps_left : (x y : Index) → WF x → x.job ≢ idle → step x ≡ next y → steps_left y + 1 ≡ steps_left x
unfolding cut
step-steps_left x y w j h = go (rw h at (step-view x))
  where
    fewer : {z : Index} (e : Entry) → x.job ≡ copying → find (to_copy x) (entries_at x (old_bucket x)) ≡ some e
        → PutAs x (new_bucket x) (moved_entry e.pair) z → steps_left z + 1 ≡ steps_left x
    fewer {z} e i k a =
        let f = copies-fewer x w e k a in
        omega (
          arith,
          steps_left-at z copying (ap (λ (v : Index). v.job) a.index ∙ i),
          steps_left-at x copying i,
          f.0,
          f.1,
        )

    go : {z : Index} → Stepping x (next z) → steps_left z + 1 ≡ steps_left x
    go (began i k v) = absurd (j i)
    go (copied i e k v) = fewer e i k (put_as v)
    go (copied_all i k) =
        omega (
          arith,
          steps_left-at (set_job x clearing) clearing refl,
          steps_left-at x copying i,
          find-no (to_copy x) (entries_at x (old_bucket x)) k,
        )
    go (cleared i e k) =
        omega (
          arith,
          steps_left-at (cut e.pair (old_bucket x) x) clearing i,
          steps_left-at x clearing i,
          old-fewer x w e k,
        )
    go (cleared_all i k) =
        omega (
          arith,
          steps_left-at (set_job x idle) idle refl,
          steps_left-at x clearing i,
          find-no (moves x) (entries_at x (old_bucket x)) k,
        )

-- no step is left exactly without a job
pub steps_left-idle : (x : Index) → steps_left x ≡ 0 → x.job ≡ idle
steps_left-idle x z = go x.job refl
  where
    go : (j : Job) → x.job ≡ j → x.job ≡ idle
    go idle e = e
    go copying e = absurd (omega (arith, steps_left-at x copying e))
    go clearing e = absurd (omega (arith, steps_left-at x clearing e))
