-- What squeeze's outcome is, by what its tests find; what a step leaves the next one.
use Rattle.std.specs.Prelude.{◌≡◌, Bool, ℕ, ◌≤◌, ◌<◌, Ok, Err, List, Result as Outcome}
use Rattle.std.proofs.Math.Path.{refl, sym, ap}
use Rattle.std.proofs.Common.{◌∙◌, subst}
use Rattle.std.proofs.Math.Bool.{true, false}
use Rattle.std.proofs.Math.Option.{Option, none, some}
use borrow.Author.Tests.{leb-true, le-leb, lt-leb}
use Rattle.std.proofs.Math.Dec.{leb}
use Rattle.lists.specs.Bytes.{Bytes}
use Rattle.model.specs.declared.Refusal.{Refusal}
use Rattle.model.specs.declared.Stop.{Stop}
use Rattle.model.specs.Index.{Index}
use Rattle.model.specs.Steps.{iterate, Step}
use Rattle.model.specs.Squeeze.{is_busy, bucket_in, bucket_test, squeeze_step}
use Rattle.model.proofs.SqueezeStepLaws.{squeeze-wf}
use Rattle.model.specs.Machine.{of_squeeze}
use Rattle.model.specs.Calls.{budget_ok}
use Rattle.model.proofs.MachineLaws.{never}
use Rattle.image.specs.Decode.{decode}
use Rattle.image.proofs.EncodeDecodeLaws.{decode-encode}
use Rattle.outcomes.specs.Outcomes.{Tested, passed, failed, unless_refused, bucket_tested}
use Rattle.journal.specs.Journal.{Disk}
use Rattle.cuts.specs.Journalled.{tested_with, step_journalled, worked_by, work_on, squeeze_journalled}
use Rattle.store.specs.declared.Change.{Change}
use Rattle.store.specs.Finish.{finished}
use Rattle.plan.specs.Plan.{Advances, advanced, halted}
use Rattle.squeeze.specs.declared.Span.{Span}
use Rattle.squeeze.specs.Span.{Spans, Leads}
use Rattle.index.specs.Tested.{test_of}
use Rattle.index.specs.TestedLaws.{failed-is}
use Rattle.index.specs.ReadyLaws.{ready-sound, ready-passed}
use Rattle.index.specs.Sound.{Sound}

-- ---- the tests of the bucket, in their order

module _ (x : Index) (b : ℕ) where
  pub bucket-above : x.max_bucket < b → Err Refusal.Number ≡ test_of (unless_refused (bucket_test x b) x)
  unfolding bucket_test
  bucket-above h =
      sym (ap (λ (t : Bool). test_of (unless_refused (bucket_in t (is_busy x b)) x)) (lt-leb b x.max_bucket h))

  in-range : b ≤ x.max_bucket → {u : Bool} → is_busy x b ≡ u
      → test_of (unless_refused (bucket_in true u) x) ≡ test_of (unless_refused (bucket_test x b) x)
  unfolding bucket_test
  in-range h e = sym (λ i. test_of (unless_refused (bucket_in (le-leb b x.max_bucket h i) (e i)) x))

  pub bucket-busy : b ≤ x.max_bucket → is_busy x b ≡ true
      → Err Refusal.Busy ≡ test_of (unless_refused (bucket_test x b) x)
  bucket-busy h e = in-range h e

  pub bucket-free : b ≤ x.max_bucket → is_busy x b ≡ false → Ok tt ≡ test_of (unless_refused (bucket_test x b) x)
  bucket-free h e = in-range h e

-- ---- all tests

module _ (d : Disk) (b : ℕ) (numbers : Bool) where
  -- one that fails before the bucket's
  pub early-fails : (r : Refusal) → test_of (tested_with numbers d) ≡ Err r
      → Err r ≡ test_of (bucket_tested (tested_with numbers d) b)
  early-fails r h = sym (ap (λ (t : Tested). test_of (bucket_tested t b)) (failed-is (tested_with numbers d) r h))

  module _ (bytes : Bytes d.store) where
    abbrev x : Index
    x = decode d.store

    -- and where those pass, the bucket's decide
    pub early-passes : test_of (tested_with numbers d) ≡ Ok tt
        → test_of (unless_refused (bucket_test (decode d.store) b) (decode d.store))
        ≡ test_of (bucket_tested (tested_with numbers d) b)
    early-passes h = sym (ap (λ (t : Tested). test_of (bucket_tested t b)) (ready-passed numbers d bytes h))

    module _ (h : test_of (bucket_tested (tested_with numbers d) b) ≡ Ok tt) where
      pub all-early : test_of (tested_with numbers d) ≡ Ok tt
      all-early = go (tested_with numbers d) h
        where
          go : (t : Tested) → test_of (bucket_tested t b) ≡ Ok tt → test_of t ≡ Ok tt
          go (passed x) h = refl
          go (failed r) h = never (cc)

      pub squeeze-sound : Sound d.store
      squeeze-sound = ready-sound numbers d bytes all-early

      -- the bucket is there
      pub squeeze-range : b ≤ (decode d.store).max_bucket
      unfolding bucket_test
      squeeze-range =
          go (leb b x.max_bucket) refl
          (sym (ap (λ (t : Tested). test_of (bucket_tested t b)) (ready-passed numbers d bytes all-early)) ∙ h)
        where
          go : (r : Bool) → leb b x.max_bucket ≡ r
              → test_of (unless_refused (bucket_in r (is_busy x b)) x) ≡ Ok tt → b ≤ x.max_bucket
          go true e h = leb-true b x.max_bucket e
          go false e h = never (cc)

      pub all-passed : bucket_tested (tested_with numbers d) b ≡ passed (decode d.store)
      all-passed =
          ap (λ (t : Tested). bucket_tested t b) e
          ∙ go (bucket_test x b) (sym (ap (λ (t : Tested). test_of (bucket_tested t b)) e) ∙ h)
        where
          e : tested_with numbers d ≡ passed x
          e = ready-passed numbers d bytes all-early

          go : (q : Option Refusal) → test_of (unless_refused q x) ≡ Ok tt → unless_refused q x ≡ passed x
          go none h = refl
          go (some r) h = never (cc)

-- ---- the pages that the next step looks at are there in the store that a step leaves

pub advances-spans : {s : List ℕ} {c : Change} {images : List ℕ} {X : Type 0} (b : ℕ) → Sound s
    → {q : Step Index} {a : Outcome X Stop} → Advances s c images q a → squeeze_step b (decode s) ≡ q → (t : List ℕ)
    → t ≡ finished s c images → {v : Span} → Leads (decode s) b v → {x : X} → a ≡ Ok x → Spans (decode t) b v
advances-spans {s} b r (advanced {y} p) e t f {v} g n =
    subst (λ (x : Index). Spans x b v)
    (sym (ap decode (f ∙ p.makes) ∙ decode-encode y (squeeze-wf b (decode s) y r.wf e))) (g y e)
advances-spans b r (halted z) e t f g n = never (cc)

-- ---- the outcome

module _ (d : Disk) (b budget : ℕ) where
  pub squeeze-fails : (r : Refusal) → test_of (bucket_tested (tested_with (budget_ok budget) d) b) ≡ Err r
      → squeeze_journalled d b budget ≡ record { answer = Err r; disk = d }
  unfolding squeeze_journalled
  squeeze-fails r h =
      ap (λ (t : Tested). work_on t d (iterate (step_journalled (of_squeeze b)) budget d))
      (failed-is (bucket_tested (tested_with (budget_ok budget) d) b) r h)

  pub squeeze-passes : Bytes d.store → test_of (bucket_tested (tested_with (budget_ok budget) d) b) ≡ Ok tt
      → squeeze_journalled d b budget ≡ worked_by (iterate (step_journalled (of_squeeze b)) budget d)
  unfolding squeeze_journalled
  squeeze-passes bytes h =
      ap (λ (t : Tested). work_on t d (iterate (step_journalled (of_squeeze b)) budget d))
      (all-passed d b (budget_ok budget) bytes h)
