use Rattle.std.proofs.Common.{sym, ap, ◌∙◌}
use Rattle.model.specs.declared.Phase.{Phase}
use Rattle.image.specs.Decode.{decode}
use Rattle.view.specs.ReadsLaws.{reads_known}
use Rattle.model.specs.Demand.{of_job}
use Rattle.model.proofs.Demand3SqueezeLaws.{busy-phase}
use Rattle.squeeze.proofs.is_busy.Goals as goal

pub read_job-phase-requires : goal.read_job-phase-requires
read_job-phase-requires c = reads_known c.requires

pub returns-in-None : goal.returns-in-None
returns-in-None c =
    let b = c.args.b in
    ap (λ (q : Phase). of_job q b) (sym c.in-None.is ∙ c.read_job-phase.ensures) ∙ busy-phase (decode c.args.store.now) b

pub returns-in-Copying : goal.returns-in-Copying
returns-in-Copying c =
    let b = c.args.b in
    c.is_either.ensures
    ∙ ap (λ (q : Phase). of_job q b) (sym c.in-Copying.is ∙ c.read_job-phase.ensures)
    ∙ busy-phase (decode c.args.store.now) b

pub returns-in-Clearing : goal.returns-in-Clearing
returns-in-Clearing c =
    let b = c.args.b in
    c.is_either-in-Clearing.ensures
    ∙ ap (λ (q : Phase). of_job q b) (sym c.in-Clearing.is ∙ c.read_job-phase.ensures)
    ∙ busy-phase (decode c.args.store.now) b
