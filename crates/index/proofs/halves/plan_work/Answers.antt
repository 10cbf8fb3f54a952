use Rattle.std.proofs.Common.{true, sym, arith}
use Rattle.std.proofs.lemmas.Result.{err_from_is_err_and}
use Rattle.model.specs.Machine.{of_splits}
use Rattle.journal.specs.Journal.{disk}
use Rattle.cuts.specs.Journalled.{tested_with}
use Rattle.cuts.specs.Halves.{plan_work}
use Rattle.split.specs.FromLaws.{from_start}
use Rattle.index.specs.ReadyLaws.{ready-sound, ready-passed}
use Rattle.index.specs.HalvesLaws.{too_short, step-refused, step-passed}
use Rattle.index.proofs.halves.plan_work.Goals as goal

pub returns-then-plan-lt5632 : goal.returns-then-plan-lt5632
unfolding plan_work
returns-then-plan-lt5632 c = too_short _ _ c.if-plan-lt5632.true

pub returns-in_err-test_ready : goal.returns-in_err-test_ready
unfolding plan_work
returns-in_err-test_ready c =
    let a = c.args in
    let p = err_from_is_err_and c.from_residual.result c.from_residual.ensures.1 in
    rw (p.1, p.2)
    (step-refused a.plan.now c.if-plan-lt5632.false of_splits a.store.now a.journal.now
    (tested_with true (disk a.store.now a.journal.now)) _ (sym c.in_err-test_ready.ensures))

pub lay_step-requires-clause-sound : goal.lay_step-requires-clause-sound
lay_step-requires-clause-sound c =
    ready-sound true (disk c.args.store.now c.args.journal.now) (λ i. omega (arith, c.type_inv.store i)) (sym c.in_ok-test_ready.ensures)

pub lay_step-requires-clause-from : goal.lay_step-requires-clause-from
lay_step-requires-clause-from c = from_start _ _ c.start.ensures

pub returns : goal.returns
unfolding plan_work
returns c =
    let a = c.args in
    step-passed a.plan.now c.if-plan-lt5632.false of_splits a.store.now a.journal.now
    (tested_with true (disk a.store.now a.journal.now))
    (ready-passed true (disk a.store.now a.journal.now) (λ i. omega (arith, c.type_inv.store i)) (sym c.in_ok-test_ready.ensures))
    c.lay_step.ensures
