-- The lowest damaged block as the loop finds it, and the verdict of the two searches.
use mathlib.Core.Path.{◌≡◌, refl, sym, ap, ◌∙◌}
use mathlib.Core.Bool.{Bool, true, false, not, cond}
use mathlib.Core.List.{List}
use Rattle.std.specs.Prelude.{Result, Ok, Err}
use mathlib.Core.Option.{Option, none, some}
use Prim.Native.Nat.{ℕ, ◌+◌, ◌-◌, ◌/◌, ◌%◌, ◌≤◌, ◌<◌}
use native.Mathlib.Omega.{arith}
use borrow.Author.Tests.{leb-true}
use lib.Dec.{leb, eqb}
use lib.ListN.{length}
use Rattle.lists.specs.Lists.{find, up_from}
use Rattle.lists.specs.ListsLaws.{and_left, and_right}
use Rattle.lists.specs.Block.{blocks}
use Rattle.store.specs.Store.{checked}
use Rattle.image.specs.declared.Verdict.{Verdict}
use Rattle.image.specs.Decode.{decode}
use Rattle.image.specs.Rules.{lowest_damaged, lowest_broken, judge, verdict}
use Rattle.outcomes.specs.Outcomes.{verdict_of}
use Rattle.image.specs.Rules.{length_ok}
use Rattle.frame.specs.ListsLaws.{find-hit, find-pass}
use Rattle.verify.specs.Tests.{tested_as}
use Rattle.shape.specs.LoopLaws.{run-turn, run-done}

-- the verdict on a store whose checks are right, by what the tests of the rules fail with
abbrev pub judged_as : Result (Unit {0}) ℕ → Verdict
judged_as (Ok u) = Verdict.Sound
judged_as (Err r) = Verdict.NotIndex r

module _ (s : List ℕ) where
  -- a store of legal length has a first block
  pub first-whole : length_ok s ≡ true → 512 ≤ length s
  unfolding length_ok blocks
  first-whole h =
      let size = and_right (eqb (length s % 512) 0) _ h in
      omega (arith, leb-true 4 (length s / 512) (and_left (leb 4 (length s / 512)) _ size))

  abbrev damaged : ℕ → Bool
  damaged k = not (checked s k)

  abbrev rest : ℕ → List ℕ
  rest k = up_from (k + 1) (blocks s - (k + 1))

  -- the lowest damaged block from k on
  abbrev pub damaged_from : ℕ → Option ℕ
  damaged_from k = find damaged (up_from k (blocks s - k))

  pub damaged-start : damaged_from 0 ≡ lowest_damaged s
  unfolding lowest_damaged
  damaged-start =
      let e : blocks s - 0 ≡ blocks s = omega arith in
      ap (λ (n : ℕ). find damaged (up_from 0 n)) e

  module _ (k : ℕ) (so_far : damaged_from k ≡ lowest_damaged s) where
    pub damaged-here : k < blocks s → checked s k ≡ false → Verdict.Damaged k ≡ verdict_of (verdict s)
    unfolding verdict
    damaged-here more bad =
        let found : lowest_damaged s ≡ some k =
        sym so_far ∙ ap (find damaged) (run-turn k (blocks s) more) ∙ find-hit damaged k (rest k) (ap not bad) in
        rw found

    pub damaged-later : k < blocks s → checked s k ≡ true → damaged_from (k + 1) ≡ lowest_damaged s
    damaged-later more good =
        sym (find-pass damaged k (rest k) (ap not good)) ∙ sym (ap (find damaged) (run-turn k (blocks s) more)) ∙ so_far

    pub undamaged : blocks s ≤ k → (r : Result (Unit {0}) ℕ) → r ≡ tested_as (lowest_broken s)
        → judged_as r ≡ verdict_of (verdict s)
    unfolding verdict
    undamaged past r e =
        let nowhere : lowest_damaged s ≡ none = sym so_far ∙ ap (find damaged) (run-done k (blocks s) past) in
        ap judged_as e ∙ rw nowhere (go (lowest_broken s))
      where
        go : (b : Option ℕ) → judged_as (tested_as b) ≡ verdict_of (judge none b (decode s))
        go none = refl
        go (some r) = refl

-- ---- what the test of a rule tells, where it goes on and where it ends

pub goes-on : (b : Bool) (r : ℕ) (u : Unit {0}) → ◌≡◌ {A = Result (Unit {0}) ℕ} (Ok u) (cond b (Ok tt) (Err r)) → b ≡ true
goes-on true r u e = refl
goes-on false r u e = absurd cc

pub ends : (b : Bool) (r n : ℕ) → ◌≡◌ {A = Result (Unit {0}) ℕ} (Err n) (cond b (Ok tt) (Err r)) → (b ≡ false) × (n ≡ r)
ends true r n e = absurd cc
ends false r n e = (refl, cc)
