use Rattle.image.specs.Decode.{decode}
use Rattle.plan.specs.Plan.{advanced}
use Rattle.split.specs.FromLaws.{leads-start, clear-leads}
use Rattle.split.specs.StepLaws.{step-clears, advances-at}
use Rattle.split.specs.CopyLaws.{clear_next}
use Rattle.split.proofs.step.step_clearing.Goals as goal

pub returns-in_default-clause-advances : goal.returns-in_default-clause-advances
returns-in_default-clause-advances c =
    advances-at (advanced c.plan_cleared.ensures)
    (step-clears (decode c.args.store.now) c.requires.store_value.0 c.in_default.ensures.seeks)

pub returns-in_default-clause-leads : goal.returns-in_default-clause-leads
returns-in_default-clause-leads c = leads-start (decode c.args.store.now) c.start.result c.start.ensures

pub clear_pair-requires-clause-wf : goal.clear_pair-requires-clause-wf
clear_pair-requires-clause-wf c =
    clear_next c.requires.reads c.requires.store_value.0 c.in-Some.mover.entry c.in-Some.ensures.seeks.0

pub returns-clause-advances : goal.returns-clause-advances
returns-clause-advances c =
    advances-at (advanced c.clear_pair.ensures)
    (step-clears (decode c.args.store.now) c.requires.store_value.0 c.in-Some.ensures.seeks.0)

pub returns-clause-leads : goal.returns-clause-leads
returns-clause-leads c =
    let x = decode c.args.store.now in
    let found = c.in-Some.ensures.seeks in
    clear-leads x c.requires.reads.wf c.in-Some.mover.entry c.requires.store_value.0 found.0 c.in-Some.mover.place
    found.1.first c.find_spot-page.result c.args.from.place c.find_spot-page.ensures _ c.keep_spot.ensures
