-- A call on the index, seen by its effect: it is refused and leaves the index, or it does what its effect says. What
-- is shown of every call goes by this view, so that a new call with an old effect is one line of it.
use Rattle.std.specs.Prelude.{◌≡◌, refl, Bool, true, false, not, ◌&&◌, ℕ, eqb, leb, Ok}
use Rattle.page.specs.declared.Pair.{Pair}
use Rattle.model.specs.declared.Order.{Order}
use Rattle.model.specs.declared.Refusal.{Refusal}
use Rattle.model.specs.Answers.{refusal_no}
use Rattle.model.specs.Index.{Index}
use Rattle.model.specs.Steps.{next, iterate}
use Rattle.model.specs.Squeeze.{squeeze, is_busy, bucket_in, bucket_test}
use Rattle.model.specs.Calls.{Result, done, refused, size_ok, format_ok, in_use, overwrites, budget_ok, format}
use Rattle.model.specs.Calls.{format_in, formatted, insert, remove, work}
use Rattle.model.specs.Machine.{Call, formatting, inserting, removing, looking, working, squeezing, asking}
use Rattle.model.specs.Machine.{CallFits, Kind, of_splits, of_squeeze, Reply, plain, accepted, Ran, settled}
use Rattle.model.specs.Machine.{worked_in, squeezed_in, run_index, step_index}
use Rattle.model.specs.Book.{Effect, empties, puts, takes, leaves, has_steps, effect}
use Rattle.model.specs.WellFormed.{WF}
use Rattle.model.proofs.FormatLaws.{format-wf}
use Rattle.model.proofs.InsertLaws.{insert-wf}
use Rattle.model.proofs.RemoveLaws.{remove-wf}
use Rattle.model.proofs.KindLaws.{kind-wf}
use Rattle.model.proofs.WorkLaws.{iterate-keeps}

pub refused-no : (r : Refusal) → eqb (refusal_no r) 0 ≡ false
refused-no Refusal.Length = refl
refused-no Refusal.Number = refl
refused-no (Refusal.Damaged k) = refl
refused-no (Refusal.NotIndex k) = refl
refused-no Refusal.HeldAlready = refl
refused-no Refusal.NotHeld = refl
refused-no Refusal.NoRoom = refl
refused-no (Refusal.OutputShort n) = refl
refused-no Refusal.Busy = refl
refused-no Refusal.InUse = refl
refused-no Refusal.JournalLength = refl
refused-no Refusal.Pending = refl

pub data Running (x : Index) : Effect → Ran Index → Type 0 where
  refuses : {e : Effect} {r : Reply} → accepted r ≡ false → Running x e (record { reply = r; state = x })
  formats : {o : Order} → CallFits (formatting o) → size_ok x.size ≡ true → format_ok o ≡ true
      → Running x (empties o) (record { reply = plain (Ok tt); state = format x.size o })
  inserts : {p : Pair} {y : Index} → CallFits (inserting p) → insert x p ≡ done y
      → Running x (puts p) (record { reply = plain (Ok tt); state = y })
  removes : {p : Pair} {y : Index} → remove x p ≡ done y
      → Running x (takes p) (record { reply = plain (Ok tt); state = y })
  reads : {r : Reply} → Running x leaves (record { reply = r; state = x })
  works : {kind : Kind} {budget : ℕ} {r : Reply} → accepted r ≡ true
      → Running x (has_steps kind budget) (record { reply = r; state = (iterate (step_index kind) budget x).state })

-- a refused format, insert or removal
refused-running : {e : Effect} (x : Index) (q : Refusal) → Running x e (settled x (refused q))
refused-running x q = refuses (refused-no q)

pub run-view : (c : Call) → CallFits c → (x : Index) → Running x (effect c) (run_index c x)
unfolding run_index formatted work squeeze bucket_test
run-view (formatting o) fits x = go (size_ok x.size) (format_ok o) (not (overwrites o) && in_use x) refl refl
  where
    go : (s f p : Bool) → size_ok x.size ≡ s → format_ok o ≡ f
        → Running x (empties o) (settled x (format_in s f p (format x.size o)))
    go true true false e k = formats fits e k
    go true true true e k = refused-running x Refusal.InUse
    go true false p e k = refused-running x Refusal.Number
    go false f p e k = refused-running x Refusal.Length
run-view (inserting p) fits x = go (insert x p) refl
  where
    go : (r : Result) → insert x p ≡ r → Running x (puts p) (settled x r)
    go (done y) e = inserts fits e
    go (refused q) e = refused-running x q
run-view (removing p) fits x = go (remove x p) refl
  where
    go : (r : Result) → remove x p ≡ r → Running x (takes p) (settled x r)
    go (done y) e = removes e
    go (refused q) e = refused-running x q
run-view (looking h out) fits x = reads
run-view (working budget) fits x = go (budget_ok budget)
  where
    go : (b : Bool) → Running x (has_steps of_splits budget) (worked_in b x (work budget x))
    go true = works refl
    go false = refuses refl
run-view (squeezing b budget) fits x = go (budget_ok budget) (leb b x.max_bucket) (is_busy x b)
  where
    go : (a r u : Bool) → Running x (has_steps (of_squeeze b) budget) (squeezed_in a (bucket_in r u) x (squeeze b budget x))
    go true true false = works refl
    go true true true = refuses refl
    go true false u = refuses refl
    go false r u = refuses refl
run-view asking fits x = reads

-- ---- what every call keeps

-- format, insert, remove and each step keep P
pub record Keeps (P : Index → Type 0) : Type 0 where
  pub formats : (x : Index) (o : Order) → CallFits (formatting o) → size_ok x.size ≡ true → format_ok o ≡ true → P x
      → P (format x.size o)
  pub inserts : (x : Index) (p : Pair) (y : Index) → P x → CallFits (inserting p) → insert x p ≡ done y → P y
  pub removes : (x : Index) (p : Pair) (y : Index) → P x → remove x p ≡ done y → P y
  pub steps : (k : Kind) (x y : Index) → P x → step_index k x ≡ next y → P y

pub run-keeps : (P : Index → Type 0) → Keeps P → (c : Call) → CallFits c → (x : Index) → P x → P (run_index c x).state
run-keeps P k c fits x h = go (run-view c fits x)
  where
    go : {e : Effect} {r : Ran Index} → Running x e r → P r.state
    go (refuses d) = h
    go (formats {o = o} fits s f) = k.formats x o fits s f h
    go (inserts {p = p} {y = y} f e) = k.inserts x p y h f e
    go (removes {p = p} {y = y} e) = k.removes x p y h e
    go reads = h
    go (works {kind = j} {budget = budget} d) = iterate-keeps (step_index j) P (k.steps j) budget x h

pub run-wf : (c : Call) → CallFits c → (x : Index) → WF x → WF (run_index c x).state
run-wf =
    run-keeps WF
    (record {
      formats = λ x o g s f w. format-wf x.size o g s f;
      inserts = insert-wf;
      removes = remove-wf;
      steps = kind-wf;
    })
