-- What the tests before a call say of a store, and what a store that passes them is.
use Rattle.std.specs.Prelude.{◌≡◌, refl, Bool, true, false, cond, ◌&&◌, List, ℕ, ◌%◌, ◌≤◌, eqb, leb, length, Ok, Err}
use Rattle.std.proofs.Common.{sym, ap, ◌∙◌, arith, leb-true}
use Rattle.lists.specs.ListsLaws.{and_left, and_right}
use Rattle.lists.specs.Bytes.{Bytes}
use Rattle.lists.specs.Block.{blocks}
use Rattle.model.specs.declared.Refusal.{Refusal}
use Rattle.page.specs.declared.Pair.{Pair}
use Rattle.model.specs.Answers.{Answer}
use Rattle.model.specs.Calls.{pair_ok}
use Rattle.address.specs.Limits.{max_blocks}
use Rattle.model.proofs.MachineLaws.{never}
use Rattle.image.specs.declared.Meta.{Meta}
use Rattle.image.specs.declared.Verdict.{Verdict}
use Rattle.image.specs.Decode.{meta_at, decode}
use Rattle.image.specs.Rules.{Judged, damaged, not_index, sound, verdict}
use Rattle.image.proofs.BridgeTheorem.{sound-is-encoding}
use Rattle.outcomes.specs.Outcomes.{Tested, passed, failed, judged, tested_in, tested, verdict_of, verify_outcome}
use Rattle.outcomes.proofs.OutcomeLaws.{passed-numbers}
use Rattle.image.specs.Rules.{length_ok}
use Rattle.chain.specs.WalkLaws.{length_ok-sized}
use Rattle.view.specs.Reads.{Reads}
use Rattle.view.specs.ReadsLaws.{sound-reads}
use Rattle.index.specs.Tested.{test_of, test_from, PairTested}
use Rattle.index.specs.Sound.{Sound}

pub test-verdict : (s : List ℕ) → test_from (verify_outcome s) ≡ test_of (tested true s)
unfolding verify_outcome tested
test-verdict s = go (length_ok s) (verdict s)
  where
    judge : (j : Judged) → test_from (verdict_of j) ≡ test_of (judged j)
    judge (damaged k) = refl
    judge (not_index r) = refl
    judge (sound x) = refl

    go : (l : Bool) (j : Judged) → test_from (cond l (verdict_of j) Verdict.BadLength) ≡ test_of (tested_in l true j)
    go true j = judge j
    go false j = refl

-- a store that passes: its meta block is there, it is read as its index, and that is the index to work on
pub record Passes (s : List ℕ) : Type 0 where
  pub legal : length_ok s ≡ true
  pub reads : (m : Meta) → m ≡ meta_at s → Reads s m
  pub index : tested true s ≡ passed (decode s)

pub passes : (s : List ℕ) → Bytes s → test_of (tested true s) ≡ Ok tt → Passes s
unfolding tested
passes s b h = go (length_ok s) (verdict s) refl refl h
  where
    go : (l : Bool) (j : Judged) → length_ok s ≡ l → verdict s ≡ j → test_of (tested_in l true j) ≡ Ok tt → Passes s
    go false j e v h = never (cc)
    go true (damaged k) e v h = never (cc)
    go true (not_index r) e v h = never (cc)
    go true (sound x) e v h =
        record {
          legal = e;
          reads = λ m q. sound-reads s m x b e v q;
          index = rw (e, v) (ap passed (sound-is-encoding s x b e v).read);
        }

pub passes-room : {s : List ℕ} → Passes s → 512 ≤ length s
unfolding length_ok
passes-room {s} p =
    let z = length_ok-sized s p.legal in
    let few = and_right (eqb (length s % 512) 0) (leb 4 (blocks s) && leb (blocks s) max_blocks) p.legal in
    omega (arith, z.whole, leb-true 4 (blocks s) (and_left (leb 4 (blocks s)) (leb (blocks s) max_blocks) few))

-- one that does not: the refusal
pub failed-is : (t : Tested) (r : Refusal) → test_of t ≡ Err r → t ≡ failed r
failed-is (passed x) r h = never (cc)
failed-is (failed q) r h = cc

pub fails : (n : Bool) (s : List ℕ) (r : Refusal) → test_of (tested n s) ≡ Err r → tested n s ≡ failed r
fails n s = failed-is (tested n s)

-- the numbers of a call that passes are good
pub passes-numbers : (n : Bool) (s : List ℕ) → test_of (tested n s) ≡ Ok tt → n ≡ true
passes-numbers n s h = go (tested n s) refl h
  where
    go : (t : Tested) → tested n s ≡ t → test_of t ≡ Ok tt → n ≡ true
    go (passed x) e h = passed-numbers s n x e
    go (failed r) e h = never (cc)

-- a call with numbers that passes
pub passes-call : (n : Bool) (s : List ℕ) → Bytes s → test_of (tested n s) ≡ Ok tt → Passes s
passes-call n s b h =
    passes s b (ap (λ (n : Bool). test_of (tested n s)) (sym (passes-numbers n s h)) ∙ h)

pub passes-index : (n : Bool) (s : List ℕ) → Bytes s → test_of (tested n s) ≡ Ok tt
    → tested n s ≡ passed (decode s)
passes-index n s b h =
    ap (λ (n : Bool). tested n s) (passes-numbers n s h) ∙ (passes-call n s b h).index

-- a sound store, with the fields of its meta block
pub passes-sound : {s : List ℕ} → Passes s → Sound s
passes-sound {s} p = p.reads (meta_at s) refl

-- ---- a call with a pair

pub pair-fails : (s : List ℕ) (p : Pair) (t : Answer) (r : Refusal) → t ≡ test_of (tested (pair_ok p) s) → t ≡ Err r
    → PairTested s p (Err r)
pair-fails s p t r e h = fails (pair_ok p) s r (sym e ∙ h)

pub pair-passes : (s : List ℕ) (p : Pair) (t : Answer) → Bytes s → t ≡ test_of (tested (pair_ok p) s) → t ≡ Ok tt
    → PairTested s p (Ok p)
pair-passes s p t b e h =
    let g : test_of (tested (pair_ok p) s) ≡ (Ok tt) = sym e ∙ h in (
      refl,
      passes-sound (passes-call (pair_ok p) s b g),
      passes-numbers (pair_ok p) s g,
      passes-index (pair_ok p) s b g,
    )
