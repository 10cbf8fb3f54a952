-- DEMAND 3 holds of byte stores, over every list of calls; the index that a store shows is the one that it is read as.
-- The claim is in Demand.antt of crate `model`, its proof for the index as a value in Demand3Theorem.antt there; a
-- store does as its index does (OutcomeMachineLaws.antt).
use Rattle.std.specs.Prelude.{◌≡◌, true, List, ◌∷◌, ℕ}
use Rattle.lists.specs.Lists.{Each}
use Rattle.model.specs.declared.Order.{Order}
use Rattle.model.specs.Machine.{Call, formatting, CallFits, accepted}
use Rattle.model.specs.History.{Moment, history, start}
use Rattle.model.specs.HistoryLaws.{history-keeps}
use Rattle.model.specs.Demand.{Demand3}
use Rattle.model.proofs.Demand3Theorem.{demand3}
use Rattle.model.proofs.TransferLaws.{transfer}
use Rattle.image.specs.Decode.{decode}
use Rattle.outcomes.specs.Outcomes.{run_store, on_store}
use Rattle.image.specs.SoundStore.{Encodes, StaysSound}
use Rattle.outcomes.proofs.OutcomeIndexLaws.{encodes-read}
use Rattle.outcomes.proofs.OutcomeSoundLaws.{format-sound}
use Rattle.outcomes.proofs.OutcomeMachineLaws.{simulates}
use Rattle.outcomes.proofs.OutcomeHistoryLaws.{keeps-call, keeps-step}

pub demand3-stores : Demand3 on_store decode
demand3-stores = transfer Encodes simulates (λ x. x) decode encodes-read demand3

-- the store that format leaves, and every store of the list, is sound and as long as the first
pub history-length : (s : List ℕ) (o : Order) → CallFits (formatting o)
    → accepted (run_store (formatting o) s).reply ≡ true
    → (cs : List Call) → Each CallFits cs
    → let t = start on_store (run_store (formatting o) s).state o in
    Each (λ (u : Moment on_store). StaysSound s u.state) (t ∷ history on_store cs t)
unfolding run_store
history-length s o fits e cs f =
    let t = start on_store (run_store (formatting o) s).state o in
    let h = format-sound s o fits e in
    (h, history-keeps on_store (StaysSound s) (keeps-call s) (keeps-step s) cs f t h)
