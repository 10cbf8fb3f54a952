-- SPLITS FINISH IN BUSY HOURS (docs/RULES.md 7.11), the exact law, of stores: a split that finds m pairs to move is
-- over exactly when its own steps and those that removals saved are 2m + 3 (`OverIs`, Busy.antt of crate `model`). The
-- bound that follows from it is part of demand 3.
use Rattle.std.specs.Prelude.{◌≡◌, true, List, ℕ, suc}
use Rattle.std.proofs.Common.{sym, ap, ◌∙◌}
use Rattle.lists.specs.Bytes.{Bytes}
use Rattle.page.specs.declared.Pair.{Pair}
use Rattle.page.specs.Pair.{ascending}
use Rattle.model.specs.Index.{idle, Index}
use Rattle.model.specs.Held.{self, held}
use Rattle.model.specs.Steps.{next, step}
use Rattle.model.specs.Machine.{of_splits}
use Rattle.model.specs.Book.{Book, has, movers}
use Rattle.model.proofs.SimulationLaws.{alike_next}
use Rattle.model.specs.Busy.{Busy, OverIs}
use Rattle.model.proofs.BusyTheorem.{busy-over}
use Rattle.model.proofs.BusyTransferLaws.{busy-beside}
use Rattle.image.specs.Decode.{decode}
use Rattle.image.specs.Rules.{length_ok, sound, verdict}
use Rattle.image.proofs.BridgeTheorem.{sound-is-encoding}
use Rattle.image.specs.SoundStore.{Encodes}
use Rattle.outcomes.specs.Outcomes.{step_outcome, on_store}
use Rattle.outcomes.proofs.OutcomeIndexLaws.{encodes-read, step-alike}
use Rattle.outcomes.proofs.OutcomeMachineLaws.{simulates}

-- a sound store s without a job, a begin from s to t, and the pairs that s holds as a book
pub store-over : (s t : List ℕ) (x : Index) → Bytes s → length_ok s ≡ true → verdict s ≡ sound x
    → x.job ≡ idle → step_outcome s ≡ next t
    → (bk : Book) → ascending self bk ≡ true → ((p : Pair) → has bk p ≡ held x p)
    → {k l : ℕ} {u : List ℕ} → Busy on_store decode t k l u
    → OverIs on_store decode (movers (suc x.max_bucket) bk) k l u
store-over s t x bytes legal sounds j h bk a e {u = u} b =
    let r = sound-is-encoding s x bytes legal sounds in
    let g = alike_next Encodes (step_outcome s) (step x) t (step-alike of_splits s x (r.wf, r.bytes)) h in
    let p = busy-beside Encodes simulates (λ y. y) decode encodes-read g.related b in
    let o = busy-over x g.state r.wf j g.goes bk a e p.busy in
    let d : decode u ≡ p.state = encodes-read u p.state p.related in
    record {
      most = o.most;
      over = (
        λ i. o.over.0 (ap (λ (y : Index). y.job) (sym d) ∙ i),
        λ i. ap (λ (y : Index). y.job) d ∙ o.over.1 i,
      );
    }
