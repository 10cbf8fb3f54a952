use Rattle.std.proofs.Common.{sym, ◌∙◌}
use Rattle.image.specs.Decode.{decode}
use Rattle.view.specs.ReadsLaws.{reads-laid, reads-meta}
use Rattle.plan.specs.Plan.{halted}
use Rattle.split.specs.FromLaws.{begin-leads}
use Rattle.split.specs.StepLaws.{step-rests, step-begins, places-next, places-stop, advances-at}
use Rattle.split.proofs.step.step_idle.Goals as goal

pub is_wanted-requires : goal.is_wanted-requires
is_wanted-requires c =
    let r = c.requires.reads in
    (decode c.args.store.now, reads-laid r, reads-meta r)

pub returns-then-not-is_wanted-clause-advances : goal.returns-then-not-is_wanted-clause-advances
returns-then-not-is_wanted-clause-advances c =
    let r = c.requires.reads in
    let x = decode c.args.store.now in
    let tested = c.is_wanted.ensures x (reads-laid r) (reads-meta r) in
    advances-at (halted c.clear.ensures.count_value)
    (step-rests x c.requires.store_value (sym tested ∙ c.if-not-is_wanted.true))

pub plan_begin-requires : goal.plan_begin-requires
plan_begin-requires c =
    let r = c.requires.reads in
    let tested = c.is_wanted.ensures (decode c.args.store.now) (reads-laid r) (reads-meta r) in
    record { reads = r; store_value = (c.requires.store_value, sym tested ∙ c.if-not-is_wanted.false) }

pub returns-then-not-plan_begin-clause-advances : goal.returns-then-not-plan_begin-clause-advances
returns-then-not-plan_begin-clause-advances c =
    let r = c.requires.reads in
    let x = decode c.args.store.now in
    let tested = c.is_wanted.ensures x (reads-laid r) (reads-meta r) in
    advances-at (places-stop c.plan_begin.ensures c.if-not-plan_begin.true)
    (step-begins x c.requires.store_value (sym tested ∙ c.if-not-is_wanted.false))

pub returns-clause-advances : goal.returns-clause-advances
returns-clause-advances c =
    let r = c.requires.reads in
    let x = decode c.args.store.now in
    let tested = c.is_wanted.ensures x (reads-laid r) (reads-meta r) in
    advances-at (places-next c.plan_begin.ensures c.if-not-plan_begin.false _)
    (step-begins x c.requires.store_value (sym tested ∙ c.if-not-is_wanted.false))

pub returns-clause-leads : goal.returns-clause-leads
returns-clause-leads c = begin-leads (decode c.args.store.now) c.requires.reads.wf c.requires.store_value
