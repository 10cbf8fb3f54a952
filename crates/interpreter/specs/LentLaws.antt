-- A call that is lent a journal whose head was just wiped does what it does to a store alone.
use Rattle.std.specs.Prelude.{◌≡◌, ℕ, List, length}
use Rattle.std.proofs.Math.Path.{sym}
use Rattle.std.proofs.Common.{ap, ◌∙◌, arith}
use Rattle.lists.specs.Bytes.{Bytes}
use Rattle.lists.specs.Block.{block, set_block}
use Rattle.lists.specs.BlockLaws.{length-set_block, block_same}
use Rattle.page.specs.declared.Pair.{Pair}
use Rattle.model.specs.Answers.{Answer, WorkAnswer}
use Rattle.model.specs.Machine.{inserting, removing, working, CallFits, plain, worked}
use Rattle.outcomes.specs.Outcomes.{insert_outcome, remove_outcome, work_outcome, run_store}
use Rattle.journal.specs.Journal.{disk, wiped}
use Rattle.journal.specs.Cut.{Ready}
use Rattle.journal.specs.HeadLaws.{length-wiped}
use Rattle.cuts.specs.Journalled.{Journalled, WorkJournalled, insert_journalled, remove_journalled, work_journalled}
use Rattle.cuts.specs.Journalled.{run_disk}
use Rattle.cuts.proofs.JournalledLaws.{Same, journalled-bytes}

plain-eq : {a b : Answer} → plain a ≡ plain b → a ≡ b
plain-eq e = cc

worked-eq : {a b : WorkAnswer} → worked a ≡ worked b → a ≡ b
worked-eq e = cc

-- store s, and the journal j that was made of l
module _ (s l j : List ℕ) (bytes : Bytes s) (long : length l ≡ 8192) (made : j ≡ set_block l 0 wiped) where
  ready : Ready (disk s j)
  ready =
      record {
        sixteen = ap length made ∙ length-set_block l 0 wiped (omega arith) length-wiped ∙ long;
        clean = ap (λ (x : List ℕ). block x 0) made ∙ block_same l 0 wiped (omega arith) length-wiped;
      }

  pub insert-lent : (p : Pair) → CallFits (inserting p) → {a : Answer} {s' j' : List ℕ}
      → insert_journalled (disk s j) p ≡ record { answer = a; disk = disk s' j' }
      → (a ≡ (insert_outcome s p).answer) × (s' ≡ (insert_outcome s p).store)
  unfolding run_disk run_store
  insert-lent p f e =
      let t : Same (run_disk (inserting p) (disk s j)) (run_store (inserting p) s) =
      journalled-bytes ready bytes (inserting p) f in (
        sym (ap (λ (c : Journalled). c.answer) e) ∙ plain-eq t.reply,
        sym (ap (λ (c : Journalled). c.disk.store) e) ∙ t.store,
      )

  pub remove-lent : (p : Pair) → CallFits (removing p) → {a : Answer} {s' j' : List ℕ}
      → remove_journalled (disk s j) p ≡ record { answer = a; disk = disk s' j' }
      → (a ≡ (remove_outcome s p).answer) × (s' ≡ (remove_outcome s p).store)
  unfolding run_disk run_store
  remove-lent p f e =
      let t : Same (run_disk (removing p) (disk s j)) (run_store (removing p) s) =
      journalled-bytes ready bytes (removing p) f in (
        sym (ap (λ (c : Journalled). c.answer) e) ∙ plain-eq t.reply,
        sym (ap (λ (c : Journalled). c.disk.store) e) ∙ t.store,
      )

  pub work-lent : (budget : ℕ) → CallFits (working budget) → {a : WorkAnswer} {s' j' : List ℕ}
      → work_journalled (disk s j) budget ≡ record { answer = a; disk = disk s' j' }
      → (a ≡ (work_outcome s budget).answer) × (s' ≡ (work_outcome s budget).store)
  unfolding run_disk run_store
  work-lent budget f e =
      let t : Same (run_disk (working budget) (disk s j)) (run_store (working budget) s) =
      journalled-bytes ready bytes (working budget) f in (
        sym (ap (λ (c : WorkJournalled). c.answer) e) ∙ worked-eq t.reply,
        sym (ap (λ (c : WorkJournalled). c.disk.store) e) ∙ t.store,
      )
