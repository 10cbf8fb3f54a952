-- What the tests before a call with a journal find, and what its outcome is then.
use Rattle.std.specs.Prelude.{◌≡◌, refl, Bool, true, false, ℕ, length, Ok, Err}
use Rattle.std.proofs.Common.{sym, ◌∙◌, subst, eqb-true}
use Rattle.std.proofs.Math.Path.{ap}
use Rattle.lists.specs.Bytes.{Bytes}
use Rattle.page.specs.declared.Pair.{Pair}
use Rattle.model.specs.declared.Refusal.{Refusal}
use Rattle.model.specs.Answers.{Answer}
use Rattle.model.specs.Index.{Index}
use Rattle.model.specs.Steps.{iterate}
use Rattle.model.specs.Machine.{of_splits}
use Rattle.model.specs.Calls.{Result, pair_ok, budget_ok, insert, remove}
use Rattle.model.proofs.MachineLaws.{never}
use Rattle.image.specs.Decode.{decode}
use Rattle.image.specs.Rules.{length_ok}
use Rattle.outcomes.specs.Outcomes.{Tested, passed, failed, tested}
use Rattle.journal.specs.Journal.{Disk, sixteen, head_wiped}
use Rattle.cuts.specs.Journalled.{tested_in, tested_with, journalled, change_on, insert_journalled, remove_journalled}
use Rattle.cuts.specs.Journalled.{step_journalled, worked_by, work_on, work_journalled}
use Rattle.index.specs.Tested.{test_of, PairAnswer}
use Rattle.index.specs.TestedLaws.{failed-is, passes-call, passes-index, passes-sound, passes-numbers}
use Rattle.index.specs.Sound.{Sound}
use Rattle.index.specs.Ready.{PairReady}

-- a store and a journal that pass
pub record Passing (n : Bool) (d : Disk) : Type 0 where
  pub store : test_of (tested n d.store) ≡ Ok tt
  pub journal : length d.journal ≡ 8192
  pub same : tested_with n d ≡ tested n d.store

pub passing : (n : Bool) (d : Disk) → test_of (tested_with n d) ≡ Ok tt → Passing n d
unfolding tested_with
passing n d h = go (length_ok d.store) refl (sixteen d.journal) refl n refl (head_wiped d.journal) refl h
  where
    go : (l : Bool) → length_ok d.store ≡ l → (j : Bool) → sixteen d.journal ≡ j → (m : Bool) → n ≡ m
        → (w : Bool) → head_wiped d.journal ≡ w
        → test_of (tested_in l j m w (tested n d.store)) ≡ Ok tt → Passing n d
    go false el j ej m em w ew h = never (cc)
    go true el false ej m em w ew h = never (cc)
    go true el true ej false em w ew h = never (cc)
    go true el true ej true em false ew h = never (cc)
    go true el true ej true em true ew h =
        record {
          store = h;
          journal = eqb-true (length d.journal) 8192 ej;
          same = λ i. tested_in (el i) (ej i) (em i) (ew i) (tested n d.store);
        }

module _ (n : Bool) (d : Disk) (b : Bytes d.store) (h : test_of (tested_with n d) ≡ Ok tt) where
  pub ready-sound : Sound d.store
  ready-sound = passes-sound (passes-call n d.store b (passing n d h).store)

  pub ready-passed : tested_with n d ≡ passed (decode d.store)
  ready-passed = (passing n d h).same ∙ passes-index n d.store b (passing n d h).store

-- ---- a call with a pair

pub pair-unready : (d : Disk) (p : Pair) (t : Answer) (r : Refusal) → t ≡ test_of (tested_with (pair_ok p) d)
    → t ≡ Err r → PairReady d p (Err r)
pair-unready d p t r e h = failed-is (tested_with (pair_ok p) d) r (sym e ∙ h)

pub pair-ready : (d : Disk) (p : Pair) (t : Answer) → Bytes d.store → t ≡ test_of (tested_with (pair_ok p) d)
    → t ≡ Ok tt → PairReady d p (Ok p)
pair-ready d p t b e h =
    let g : test_of (tested_with (pair_ok p) d) ≡ (Ok tt) = sym e ∙ h in
    let q = passing (pair_ok p) d g in (
      refl,
      ready-sound (pair_ok p) d b g,
      passes-numbers (pair_ok p) d.store q.store,
      q.journal,
      ready-passed (pair_ok p) d b g,
    )

module _ (d : Disk) (p : Pair) {t : PairAnswer} (found : PairReady d p t) where
  pub ready-pair : {q : Pair} → t ≡ Ok q → PairReady d p (Ok q)
  ready-pair e = subst (PairReady d p) e found

  refusal : {r : Refusal} → t ≡ Err r → tested_with (pair_ok p) d ≡ failed r
  refusal e = subst (PairReady d p) e found

  module _ (f : Index → Pair → Result) where
    pub call-refused : {r : Refusal} → t ≡ Err r
        → change_on (tested_with (pair_ok p) d) (λ x. f x p) d ≡ record { answer = Err r; disk = d }
    call-refused e = ap (λ (x : Tested). change_on x (λ (x : Index). f x p) d) (refusal e)

    pub call-made : {q : Pair} → t ≡ Ok q
        → change_on (tested_with (pair_ok p) d) (λ x. f x p) d ≡ journalled d (f (decode d.store) q)
    call-made e =
        let g = ready-pair e in
        ap (λ (x : Tested). change_on x (λ (x : Index). f x p) d) g.4
        ∙ ap (λ (q : Pair). journalled d (f (decode d.store) q)) (sym g.0)

  pub insert-refused : {r : Refusal} → t ≡ Err r
      → insert_journalled d p ≡ record { answer = Err r; disk = d }
  unfolding insert_journalled
  insert-refused = call-refused insert

  pub insert-made : {q : Pair} → t ≡ Ok q
      → insert_journalled d p ≡ journalled d (insert (decode d.store) q)
  unfolding insert_journalled
  insert-made = call-made insert

  pub remove-refused : {r : Refusal} → t ≡ Err r
      → remove_journalled d p ≡ record { answer = Err r; disk = d }
  unfolding remove_journalled
  remove-refused = call-refused remove

  pub remove-made : {q : Pair} → t ≡ Ok q
      → remove_journalled d p ≡ journalled d (remove (decode d.store) q)
  unfolding remove_journalled
  remove-made = call-made remove

-- ---- work

module _ (d : Disk) (budget : ℕ) where
  pub work-refused : (r : Refusal) → test_of (tested_with (budget_ok budget) d) ≡ Err r
      → work_journalled d budget ≡ record { answer = Err r; disk = d }
  unfolding work_journalled
  work-refused r h =
      ap (λ (t : Tested). work_on t d (iterate (step_journalled of_splits) budget d))
      (failed-is (tested_with (budget_ok budget) d) r h)

  pub work-made : Bytes d.store → test_of (tested_with (budget_ok budget) d) ≡ Ok tt
      → work_journalled d budget ≡ worked_by (iterate (step_journalled of_splits) budget d)
  unfolding work_journalled
  work-made b h =
      ap (λ (t : Tested). work_on t d (iterate (step_journalled of_splits) budget d))
      (ready-passed (budget_ok budget) d b h)
