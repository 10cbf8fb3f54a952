-- What the outcomes are, on any bytes: a test that fails is the refusal, and leaves store and output; a work or squeeze
-- call is its steps.
use Rattle.std.specs.Prelude.{◌≡◌, ◌≢◌, ◌↔◌, Bool, not, ◌&&◌, List, ℕ, ◌/◌, ◌<◌, leb, length, Ok, Err}
use Rattle.std.proofs.Math.Path.{refl, ap, ap₂}
use Rattle.std.proofs.Common.{sym, ◌∙◌, subst}
use Rattle.std.proofs.Math.Bool.{true, false}
use Rattle.std.proofs.Math.Option.{Option, none, some}
use Rattle.lists.specs.Block.{blocks}
use Rattle.page.specs.declared.Pair.{Pair}
use Rattle.model.specs.declared.Order.{Order}
use Rattle.model.specs.declared.Refusal.{Refusal}
use Rattle.model.specs.Answers.{work_of}
use Rattle.model.specs.declared.Stop.{Stop}
use Rattle.model.specs.Index.{Index}
use Rattle.model.specs.Steps.{Step, next, stopped, iterate}
use Rattle.model.specs.Squeeze.{bucket_test}
use Rattle.model.specs.Calls.{Result, done, refused, format_ok, overwrites, pair_ok, budget_ok, format, format_in}
use Rattle.model.specs.Calls.{insert, remove, listed, lookup}
use Rattle.model.specs.Held.{matches}
use Rattle.model.specs.Machine.{Call, formatting, inserting, removing, looking, working, squeezing, asking, Kind}
use Rattle.model.specs.Machine.{of_splits, of_squeeze, Reply, plain, looked, worked, stands, accepted, Ran, step_index}
use Rattle.model.specs.Book.{effect}
use Rattle.model.proofs.AnswerLaws.{worked-same}
use Rattle.model.proofs.RunLaws.{refused-no}
use Rattle.model.proofs.MachineLaws.{never, kind-unspent, iterate-works}
use Rattle.model.specs.Demand.{after_steps, WorkIs}
use Rattle.image.specs.Layout.{encode}
use Rattle.image.specs.Decode.{decode}
use Rattle.image.specs.Rules.{Judged, damaged, not_index, sound, verdict}
use Rattle.outcomes.specs.Outcomes.{Tested, passed, failed, judged, tested_in, tested, store_in_use, changed}
use Rattle.image.specs.Rules.{length_ok}
use Rattle.outcomes.specs.Outcomes.{format_replacing, format_outcome, insert_on, insert_outcome, remove_on}
use Rattle.outcomes.specs.Outcomes.{remove_outcome}
use Rattle.outcomes.specs.Outcomes.{lookup_on, lookup_outcome, standing_on, standing_outcome, step_on, step_outcome}
use Rattle.outcomes.specs.Outcomes.{work_on, work_outcome, squeeze_step_outcome, unless_refused, bucket_tested}
use Rattle.outcomes.specs.Outcomes.{squeeze_outcome, run_store, step_store, on_store}
use Rattle.outcomes.specs.Refusals.{call_numbers_ok, Tests, refused_as}

-- ---- the tests, in their order

module _ (s : List ℕ) where
  pub tested-length : (n : Bool) → length_ok s ≡ false → tested n s ≡ failed Refusal.Length
  unfolding tested
  tested-length n e = ap (λ (l : Bool). tested_in l n (verdict s)) e

  pub tested-number : length_ok s ≡ true → tested false s ≡ failed Refusal.Number
  unfolding tested
  tested-number e = ap (λ (l : Bool). tested_in l false (verdict s)) e

  -- bytes of legal length are refused as the verdict says
  pub tested-verdict : length_ok s ≡ true → (j : Judged) → verdict s ≡ j → tested true s ≡ judged j
  unfolding tested
  tested-verdict e j v = ap₂ (λ (l : Bool) (j : Judged). tested_in l true j) e v

  -- and bytes that pass are sound
  pub passed-sound : (n : Bool) (x : Index) → tested n s ≡ passed x → (length_ok s ≡ true) × (verdict s ≡ sound x)
  unfolding tested
  passed-sound n x e = go (length_ok s) n (verdict s) refl refl e
    where
      go : (l n : Bool) (j : Judged) → length_ok s ≡ l → verdict s ≡ j → tested_in l n j ≡ passed x
          → (length_ok s ≡ true) × (verdict s ≡ sound x)
      go false n j p q e = never (cc)
      go true false j p q e = never (cc)
      go true true (damaged k) p q e = never (cc)
      go true true (not_index r) p q e = never (cc)
      go true true (sound y) p q e = (p, (let z : y ≡ x = cc in q ∙ ap sound z))

  -- of a call whose numbers are good
  pub passed-numbers : (n : Bool) (x : Index) → tested n s ≡ passed x → n ≡ true
  unfolding tested
  passed-numbers true x e = refl
  passed-numbers false x e = go (length_ok s) e
    where
      go : (l : Bool) → tested_in l false (verdict s) ≡ passed x → false ≡ true
      go true e = never (cc)
      go false e = never (cc)

-- ---- a call whose tests fail

-- the refusal, and the store as it was
pub run-failed : (c : Call) → Tests (effect c) → (s : List ℕ) (r : Refusal)
    → tested (call_numbers_ok (effect c)) s ≡ failed r
    → run_store c s ≡ record { reply = refused_as c r; state = s }
unfolding run_store insert_outcome remove_outcome lookup_outcome standing_outcome work_outcome squeeze_outcome
run-failed (formatting o) t s r e = absurd t
run-failed (inserting p) t s r e =
    ap (λ (a : Tested). let c = insert_on a s p in record { reply = plain c.answer; state = c.store }) e
run-failed (removing p) t s r e =
    ap (λ (a : Tested). let c = remove_on a s p in record { reply = plain c.answer; state = c.store }) e
run-failed (looking h out) t s r e = ap (λ (a : Tested). record { reply = looked (lookup_on a h out); state = s }) e
run-failed (working budget) t s r e =
    ap (λ (a : Tested). let c = work_on a s (iterate step_outcome budget s) in
    record { reply = worked c.answer; state = c.store }) e
run-failed (squeezing b budget) t s r e =
    ap (λ (a : Tested). let c = work_on (bucket_tested a b) s (iterate (squeeze_step_outcome b) budget s) in
    record { reply = worked c.answer; state = c.store }) e
run-failed asking t s r e = ap (λ (a : Tested). record { reply = stands (standing_on a); state = s }) e

-- as each test says, in their order
module _ (c : Call) (t : Tests (effect c)) (s : List ℕ) where
  pub run_length : length_ok s ≡ false → run_store c s ≡ record { reply = refused_as c Refusal.Length; state = s }
  run_length l = run-failed c t s Refusal.Length (tested-length s (call_numbers_ok (effect c)) l)

  pub run-number : length_ok s ≡ true → call_numbers_ok (effect c) ≡ false
      → run_store c s ≡ record { reply = refused_as c Refusal.Number; state = s }
  run-number l n =
      run-failed c t s Refusal.Number (ap (λ (b : Bool). tested b s) n ∙ tested-number s l)

  pub run-damaged : length_ok s ≡ true → call_numbers_ok (effect c) ≡ true → (k : ℕ) → verdict s ≡ damaged k
      → run_store c s ≡ record { reply = refused_as c (Refusal.Damaged k); state = s }
  run-damaged l n k v =
      run-failed c t s (Refusal.Damaged k) (ap (λ (b : Bool). tested b s) n ∙ tested-verdict s l (damaged k) v)

  pub run-not_index : length_ok s ≡ true → call_numbers_ok (effect c) ≡ true → (r : ℕ) → verdict s ≡ not_index r
      → run_store c s ≡ record { reply = refused_as c (Refusal.NotIndex r); state = s }
  run-not_index l n r v =
      run-failed c t s (Refusal.NotIndex r) (ap (λ (b : Bool). tested b s) n ∙ tested-verdict s l (not_index r) v)

-- ---- "Every refusal leaves store and output untouched", whatever the bytes

-- A call on any bytes, for the laws below: it is refused and leaves the store, or it formats, or its tests passed and
-- it leaves the store or is accepted.
pub data StoreRun (c : Call) (s : List ℕ) : Ran (List ℕ) → Type 0 where
  refuses : {r : Reply} → accepted r ≡ false → StoreRun c s (record { reply = r; state = s })
  formats : (o : Order) → c ≡ formatting o → length_ok s ≡ true → format_ok o ≡ true
      → StoreRun c s (record { reply = plain (Ok tt); state = encode (format (blocks s) o) })
  reads : {r : Reply} {x : Index} → tested (call_numbers_ok (effect c)) s ≡ passed x
      → StoreRun c s (record { reply = r; state = s })
  accepts : {r : Ran (List ℕ)} {x : Index} → tested (call_numbers_ok (effect c)) s ≡ passed x → accepted r.reply ≡ true
      → StoreRun c s r

changes : (c : Call) (s : List ℕ) (x : Index) → tested (call_numbers_ok (effect c)) s ≡ passed x → (r : Result)
    → let d = changed s r in StoreRun c s (record { reply = plain d.answer; state = d.store })
changes c s x e (done y) = accepts e refl
changes c s x e (refused r) = refuses (refused-no r)

pub store_view : (c : Call) (s : List ℕ) → StoreRun c s (run_store c s)
unfolding run_store format_replacing format_outcome insert_outcome remove_outcome lookup_outcome work_outcome squeeze_outcome
    standing_outcome
store_view (formatting o) s = go (length_ok s) (format_ok o) (not (overwrites o) && store_in_use s) refl refl
  where
    go : (l f p : Bool) → length_ok s ≡ l → format_ok o ≡ f
        → let d = changed s (format_in l f p (format (blocks s) o)) in
        StoreRun (formatting o) s (record { reply = plain d.answer; state = d.store })
    go false f p e k = refuses refl
    go true false p e k = refuses refl
    go true true true e k = refuses refl
    go true true false e k = formats o refl e k
store_view (inserting p) s = go (tested (pair_ok p) s) refl
  where
    go : (t : Tested) → tested (pair_ok p) s ≡ t
        → let d = insert_on t s p in StoreRun (inserting p) s (record { reply = plain d.answer; state = d.store })
    go (failed r) e = refuses (refused-no r)
    go (passed x) e = changes (inserting p) s x e (insert x p)
store_view (removing p) s = go (tested (pair_ok p) s) refl
  where
    go : (t : Tested) → tested (pair_ok p) s ≡ t
        → let d = remove_on t s p in StoreRun (removing p) s (record { reply = plain d.answer; state = d.store })
    go (failed r) e = refuses (refused-no r)
    go (passed x) e = changes (removing p) s x e (remove x p)
store_view (looking h out) s = go (tested true s) refl
  where
    go : (t : Tested) → tested true s ≡ t
        → StoreRun (looking h out) s (record { reply = looked (lookup_on t h out); state = s })
    go (failed r) e = refuses (refused-no r)
    go (passed x) e = reads e
store_view (working budget) s = go (tested (budget_ok budget) s) refl
  where
    go : (t : Tested) → tested (budget_ok budget) s ≡ t
        → let d = work_on t s (iterate step_outcome budget s) in
        StoreRun (working budget) s (record { reply = worked d.answer; state = d.store })
    go (failed r) e = refuses (refused-no r)
    go (passed x) e = accepts e refl
store_view (squeezing b budget) s = go (tested (budget_ok budget) s) refl
  where
    after : (q : Option Refusal) (x : Index) → tested (budget_ok budget) s ≡ passed x
        → let d = work_on (unless_refused q x) s (iterate (squeeze_step_outcome b) budget s) in
        StoreRun (squeezing b budget) s (record { reply = worked d.answer; state = d.store })
    after (some r) x e = refuses (refused-no r)
    after none x e = accepts e refl

    go : (t : Tested) → tested (budget_ok budget) s ≡ t
        → let d = work_on (bucket_tested t b) s (iterate (squeeze_step_outcome b) budget s) in
        StoreRun (squeezing b budget) s (record { reply = worked d.answer; state = d.store })
    go (failed r) e = refuses (refused-no r)
    go (passed x) e = after (bucket_test x b) x e
store_view asking s = go (tested true s) refl
  where
    go : (t : Tested) → tested true s ≡ t → StoreRun asking s (record { reply = stands (standing_on t); state = s })
    go (failed r) e = refuses (refused-no r)
    go (passed x) e = reads e

pub refusal-leaves : (c : Call) (s : List ℕ) → accepted (run_store c s).reply ≡ false → (run_store c s).state ≡ s
refusal-leaves c s e = go (store_view c s) e
  where
    go : {r : Ran (List ℕ)} → StoreRun c s r → accepted r.reply ≡ false → r.state ≡ s
    go (refuses h) e = refl
    go (formats o i h k) e = never (cc)
    go (reads k) e = refl
    go (accepts k h) e = never (cc)

pub refusal-output : (s : List ℕ) (h : ℕ) (out : List ℕ) (r : Refusal)
    → (lookup_outcome s h out).answer ≡ Err r
    → (lookup_outcome s h out).output ≡ out
unfolding lookup_outcome lookup
refusal-output s h out r e = go (tested true s) e
  where
    listing : (b : Bool) (ps : List Pair) → (listed b ps out).answer ≡ Err r
        → (listed b ps out).output ≡ out
    listing true ps e = never (cc)
    listing false ps e = refl

    go : (t : Tested) → (lookup_on t h out).answer ≡ Err r → (lookup_on t h out).output ≡ out
    go (failed q) e = refl
    go (passed x) e = listing (leb (length (matches x h)) (length out / 6)) (matches x h) e

-- ---- "The step count is the number of these steps and the store is theirs"

-- a step of a store is one of the index that it is read as
pub step-read : (k : Kind) (s : List ℕ) → step_store k s ≡ step_on (step_index k (decode s))
unfolding step_outcome squeeze_step_outcome
step-read of_splits s = refl
step-read (of_squeeze b) s = refl

unspent : (k : Kind) (s : List ℕ) → step_store k s ≢ stopped Stop.Spent
unspent k s e = go (step_index k (decode s)) (kind-unspent k (decode s)) (sym (step-read k s) ∙ e)
  where
    go : (r : Step Index) → r ≢ stopped Stop.Spent → step_on r ≢ stopped Stop.Spent
    go (next y) h e = never (cc)
    go (stopped r) h e = h (cc)

pub work-steps : (s : List ℕ) (budget : ℕ) (x : Index) → tested (budget_ok budget) s ≡ passed x
    → WorkIs on_store of_splits s budget
unfolding run_store work_outcome
work-steps s budget x e =
    iterate-works on_store of_splits (unspent of_splits) s budget
    (ap (λ (t : Tested). let c = work_on t s (iterate step_outcome budget s) in
    record { reply = worked c.answer; state = c.store }) e)

-- both tests passed
pub bucket-passes : (t : Tested) (b : ℕ) (x : Index) → t ≡ passed x → bucket_test x b ≡ none
    → bucket_tested t b ≡ passed x
bucket-passes t b x e f =
    ap (λ (a : Tested). bucket_tested a b) e ∙ ap (λ (q : Option Refusal). unless_refused q x) f

pub squeeze-steps : (s : List ℕ) (b budget : ℕ) (x : Index) → tested (budget_ok budget) s ≡ passed x
    → bucket_test x b ≡ none → WorkIs on_store (of_squeeze b) s budget
unfolding run_store squeeze_outcome
squeeze-steps s b budget x e f =
    iterate-works on_store (of_squeeze b) (unspent (of_squeeze b)) s budget
    (ap (λ (t : Tested). let c = work_on t s (iterate (squeeze_step_outcome b) budget s) in
    record { reply = worked c.answer; state = c.store }) (bucket-passes (tested (budget_ok budget) s) b x e f))

-- the store is that of its steps, and it stopped when the budget was spent or for what the next step says
pub record WorkEnds (s : List ℕ) (budget k : ℕ) (r : Stop) : Type 0 where
  pub store : after_steps on_store of_splits k s ≡ some (work_outcome s budget).store
  pub spent : (k ≡ budget) ↔ (r ≡ Stop.Spent)
  pub ended : k ≢ budget → (k < budget) × (step_outcome (work_outcome s budget).store ≡ stopped r)

pub work-ends : (s : List ℕ) (budget k : ℕ) (r : Stop) → (work_outcome s budget).answer ≡ Ok (work_of k r)
    → WorkEnds s budget k r
unfolding run_store work_outcome
work-ends s budget k r e = go (tested (budget_ok budget) s) refl e
  where
    same : (i : ℕ) (q : Stop) → worked (Ok (work_of k r)) ≡ worked (Ok (work_of i q)) → (i ≡ k) × (q ≡ r)
    same i q h = worked-same {a = Ok (work_of i q)} refl cc

    given : WorkIs on_store of_splits s budget → WorkEnds s budget k r
    given d =
        let h = same d.steps d.stop (ap worked (sym e) ∙ d.reply) in
        record {
          store = ap (λ (i : ℕ). after_steps on_store of_splits i s) (sym h.0) ∙ d.reached;
          spent = (λ q. sym h.1 ∙ d.spent.0 (h.0 ∙ q), λ q. sym h.0 ∙ d.spent.1 (h.1 ∙ q));
          ended = λ ne.
              let f = d.ended (λ q. ne (sym h.0 ∙ q)) in
              (subst (λ (i : ℕ). i < budget) h.0 f.0, f.1 ∙ ap stopped h.1);
        }

    go : (t : Tested) → tested (budget_ok budget) s ≡ t
        → (work_on t s (iterate step_outcome budget s)).answer ≡ Ok (work_of k r)
        → WorkEnds s budget k r
    go (failed q) f e = never (cc)
    go (passed x) f e = given (work-steps s budget x f)

-- "Steps done before a stop 7 stay; the refused one changes nothing."
pub work-no_room : (s : List ℕ) (budget k : ℕ) → (work_outcome s budget).answer ≡ Ok (work_of k Stop.NoRoom)
    → (after_steps on_store of_splits k s ≡ some (work_outcome s budget).store)
    × (step_outcome (work_outcome s budget).store ≡ stopped Stop.NoRoom)
work-no_room s budget k e =
    let d = work-ends s budget k Stop.NoRoom e in
    (d.store, (d.ended (λ q. never (let h = d.spent.0 q in cc))).1)
