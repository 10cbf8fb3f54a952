-- DEMAND 3 holds of the index as a value, over every list of calls. The claim is in Demand.antt, the invariant that
-- proves it in Demand3InvLaws.antt.
use Rattle.model.specs.Machine.{on_index}
use Rattle.model.specs.HistoryLaws.{always-map}
use Rattle.model.specs.Demand.{Holds, Demand3}
use Rattle.model.proofs.Demand3InvLaws.{Inv}
use Rattle.model.proofs.Demand3MomentLaws.{always-inv}
use Rattle.model.proofs.Demand3HoldLaws.{faithful, room-is}
use Rattle.model.proofs.Demand3SqueezeLaws.{shift_is}

pub demand3 : Demand3 on_index (λ x. x)
demand3 = always-map Inv (Holds on_index (λ x. x)) (λ t i. (faithful t i, room-is t i, shift_is t i.wf)) always-inv
