use Rattle.std.proofs.Common.{arith}
use Rattle.image.specs.Decode.{decode}
use Rattle.plan.specs.Plan.{advanced}
use Rattle.split.specs.FromLaws.{leads-start, copy-leads}
use Rattle.split.specs.StepLaws.{step-copies, places-next, places-stop, advances-at}
use Rattle.split.specs.CopyLaws.{copy-absent, copy_step, copy-next}
use Rattle.split.proofs.step.step_copying.Goals as goal

pub returns-in_default-clause-advances : goal.returns-in_default-clause-advances
returns-in_default-clause-advances c =
    advances-at (advanced c.plan_copied.ensures)
    (step-copies (decode c.args.store.now) c.requires.store_value.0 c.in_default.ensures.seeks)

-- clearing begins at the first entry
pub returns-in_default-clause-leads : goal.returns-in_default-clause-leads
returns-in_default-clause-leads c =
    let first = c.start.ensures in
    leads-start (decode c.args.store.now) _ (omega arith, first.1, first.2)

pub plan_put-requires-clause-b_value : goal.plan_put-requires-clause-b_value
plan_put-requires-clause-b_value c =
    copy-absent c.requires.reads c.requires.store_value.0 c.in-Some.mover.entry c.in-Some.ensures.seeks.0

pub plan_put-requires-clause-wf : goal.plan_put-requires-clause-wf
plan_put-requires-clause-wf c =
    copy-next c.requires.reads c.requires.store_value.0 c.in-Some.mover.entry c.in-Some.ensures.seeks.0

pub returns-then-not-plan_put-clause-advances : goal.returns-then-not-plan_put-clause-advances
returns-then-not-plan_put-clause-advances c =
    advances-at (places-stop c.plan_put.ensures c.if-not-plan_put.true)
    (copy_step c.requires.reads c.requires.store_value.0 c.in-Some.mover.entry c.in-Some.ensures.seeks.0)

pub returns-clause-advances : goal.returns-clause-advances
returns-clause-advances c =
    advances-at (places-next c.plan_put.ensures c.if-not-plan_put.false _)
    (copy_step c.requires.reads c.requires.store_value.0 c.in-Some.mover.entry c.in-Some.ensures.seeks.0)

pub returns-clause-leads : goal.returns-clause-leads
returns-clause-leads c =
    let x = decode c.args.store.now in
    let found = c.in-Some.ensures.seeks in
    copy-leads x c.requires.reads.wf c.in-Some.mover.entry c.requires.store_value.0 found.0 c.args.from
    c.requires.store_value.1 c.in-Some.mover.place found.1 _ c.find_spot-page.ensures
