-- One call of a batch, by its kind: its numbers fit, and it leaves what its definition says.
use Rattle.std.specs.Prelude.{◌≡◌, ◌≢◌, Bool, cond, List, ◌++◌, ℕ, ◌^◌, ◌<◌, min, eqb, ltb, length, take}
use Rattle.std.proofs.Math.Path.{refl, sym}
use Rattle.std.proofs.Common.{ap, ◌∙◌, subst, drop_of_length-le, length-take-le, take_all}
use Rattle.std.proofs.Math.Bool.{true, false}
use Rattle.std.proofs.Math.Option.{Option, none, some}
use native.Mathlib.Omega.{arith, min_cases}
use borrow.Author.Tests.{ne_eqb}
use Rattle.std.proofs.Math.ListN.{drop, take-append-drop}
use Rattle.std.proofs.Math.Seq.{take-length, drop-length}
use Rattle.page.specs.declared.Pair.{Pair}
use Rattle.model.specs.Calls.{order_of}
use Rattle.model.specs.Machine.{Call, formatting, inserting, removing, looking, working, squeezing, CallFits}
use Rattle.outcomes.specs.Outcomes.{format_outcome, lookup_outcome, standing_outcome}
use Rattle.journal.specs.Journal.{Disk}
use Rattle.cuts.specs.Journalled.{insert_journalled, remove_journalled, work_journalled, squeeze_journalled, run_disk}
use Rattle.amiqsovik.specs.Words.{answer_word, lookup_word, work_word}
use Rattle.amiqsovik.specs.Result.{told_in, standing_told}
use Rattle.batch.specs.Batch.{asking_in, call_of, Batched}

-- ---- the numbers fit

-- of a call, if there is one
abbrev pub MayFit : Option Call → Type 0
MayFit none = Unit {0}
MayFit (some c) = CallFits c

pub fits-call : (kind a b c : ℕ) (out : List ℕ) → a < 2 ^ 32 → b < 2 ^ 32 → c < 2 ^ 32 → MayFit (call_of kind a b c out)
unfolding call_of
fits-call kind a b c out ha hb hc =
    go (eqb kind 0) (eqb kind 1) (eqb kind 2) (eqb kind 3) (eqb kind 4) (eqb kind 5) (ltb (length (take b out)) 28)
  where
    go : (p q r s t v u : Bool)
        → MayFit (cond p (some (formatting (order_of a b c)))
        (cond q (some (inserting (record { hash = a; block = b; offset = c })))
        (cond r (some (removing (record { hash = a; block = b; offset = c }))) (cond s (some (looking a (take b out)))
        (cond t (some (working a)) (cond v (some (squeezing a b)) (asking_in u)))))))
    go true q r s t v u = (ha, hb, hc)
    go false true r s t v u = (ha, hb, hc)
    go false false true s t v u = (ha, hb, hc)
    go false false false true t v u = ha
    go false false false false true v u = ha
    go false false false false false true u = (ha, hb)
    go false false false false false false true = tt
    go false false false false false false false = tt

-- ---- the part that is lent

-- as many bytes as are asked for, or all of them
module _ (n : ℕ) (out : List ℕ) {m : ℕ} (e : m ≡ min n (length out)) where
  pub length-lent : m ≡ length (take m out)
  length-lent = sym (length-take-le m out (omega arith))

  pub take-lent : take m out ≡ take n out
  take-lent =
      ap (λ (j : ℕ). take j out) e ∙ min_cases n (length out) (take (min n (length out)) out ≡ take n out)
      (λ h f. ap (λ (j : ℕ). take j out) f)
      (λ h f. ap (λ (j : ℕ). take j out) f ∙ take-length out ∙ sym (take_all n out h))

  pub drop-lent : drop m out ≡ drop n out
  drop-lent =
      ap (λ (j : ℕ). drop j out) e ∙ min_cases n (length out) (drop (min n (length out)) out ≡ drop n out)
      (λ h f. ap (λ (j : ℕ). drop j out) f)
      (λ h f. ap (λ (j : ℕ). drop j out) f ∙ drop-length out ∙ sym (drop_of_length-le out h))

-- ---- what a call leaves, by its kind

module _ (d : Disk) (kind a b c : ℕ) (out : List ℕ) where
  abbrev pair : Pair
  pair = record { hash = a; block = b; offset = c }

  -- where the call is x
  of : (x : Option Call) → call_of kind a b c out ≡ x → {w : ℕ} {e : Disk} {out' : List ℕ} → Batched x b d out w e out'
      → Batched (call_of kind a b c out) b d out w e out'
  of x q {w} {e} {out'} r = subst (λ (x : Option Call). Batched x b d out w e out') (sym q) r

  pub ran-format : {w : ℕ} {s : List ℕ} → kind ≡ 0
      → w ≡ answer_word (format_outcome d.store (order_of a b c)).answer
      → s ≡ (format_outcome d.store (order_of a b c)).store
      → Batched (call_of kind a b c out) b d out w (record { store = s; journal = d.journal }) out
  unfolding call_of run_disk
  ran-format k e f =
      of (some (formatting (order_of a b c))) (ap (λ (n : ℕ). call_of n a b c out) k)
      (record { word = e; disk = (λ i. record { store = f i; journal = d.journal }); output = refl })

  pub ran-insert : {w : ℕ} {d' : Disk} → kind ≡ 1
      → (w ≡ answer_word (insert_journalled d (record { hash = a; block = b; offset = c })).answer)
      × ((insert_journalled d (record { hash = a; block = b; offset = c })).disk ≡ d')
      → Batched (call_of kind a b c out) b d out w d' out
  unfolding call_of run_disk
  ran-insert k e =
      of (some (inserting pair)) (ap (λ (n : ℕ). call_of n a b c out) k)
      (record { word = e.0; disk = sym e.1; output = refl })

  pub ran-remove : {w : ℕ} {d' : Disk} → kind ≡ 2
      → (w ≡ answer_word (remove_journalled d (record { hash = a; block = b; offset = c })).answer)
      × ((remove_journalled d (record { hash = a; block = b; offset = c })).disk ≡ d')
      → Batched (call_of kind a b c out) b d out w d' out
  unfolding call_of run_disk
  ran-remove k e =
      of (some (removing pair)) (ap (λ (n : ℕ). call_of n a b c out) k)
      (record { word = e.0; disk = sym e.1; output = refl })

  pub ran-lookup : {w : ℕ} {out' : List ℕ} → kind ≡ 3
      → w ≡ lookup_word (lookup_outcome d.store a (take b out)).answer
      → out' ≡ (lookup_outcome d.store a (take b out)).output ++ drop b out
      → Batched (call_of kind a b c out) b d out w d out'
  unfolding call_of run_disk
  ran-lookup k e f =
      of (some (looking a (take b out))) (ap (λ (n : ℕ). call_of n a b c out) k)
      (record { word = e; disk = refl; output = f })

  pub ran-work : {w : ℕ} {d' : Disk} → kind ≡ 4
      → (w ≡ work_word (work_journalled d a).answer) × ((work_journalled d a).disk ≡ d')
      → Batched (call_of kind a b c out) b d out w d' out
  unfolding call_of run_disk
  ran-work k e =
      of (some (working a)) (ap (λ (n : ℕ). call_of n a b c out) k)
      (record { word = e.0; disk = sym e.1; output = refl })

  pub ran-squeeze : {w : ℕ} {d' : Disk} → kind ≡ 5
      → (w ≡ work_word (squeeze_journalled d a b).answer) × ((squeeze_journalled d a b).disk ≡ d')
      → Batched (call_of kind a b c out) b d out w d' out
  unfolding call_of run_disk
  ran-squeeze k e =
      of (some (squeezing a b)) (ap (λ (n : ℕ). call_of n a b c out) k)
      (record { word = e.0; disk = sym e.1; output = refl })

  pub ran-standing : {w : ℕ} {out' : List ℕ} → kind ≢ 0 → kind ≢ 1 → kind ≢ 2 → kind ≢ 3 → kind ≢ 4 → kind ≢ 5
      → w ≡ (standing_told d.store (take b out)).word
      → out' ≡ (standing_told d.store (take b out)).result ++ drop b out
      → Batched (call_of kind a b c out) b d out w d out'
  unfolding call_of run_disk standing_told
  ran-standing {w} {out'} k0 k1 k2 k3 k4 k5 e f =
      of (asking_in (ltb (length (take b out)) 28))
      (rw (ne_eqb kind 0 k0, ne_eqb kind 1 k1, ne_eqb kind 2 k2, ne_eqb kind 3 k3, ne_eqb kind 4 k4, ne_eqb kind 5 k5))
      (go (ltb (length (take b out)) 28) e f)
    where
      go : (short : Bool) → w ≡ (told_in short (standing_outcome d.store) (take b out)).word
          → out' ≡ (told_in short (standing_outcome d.store) (take b out)).result ++ drop b out
          → Batched (asking_in short) b d out w d out'
      go true e f = record { word = e; disk = refl; output = f ∙ take-append-drop b out }
      go false e f = record { word = e; disk = refl; output = f }
