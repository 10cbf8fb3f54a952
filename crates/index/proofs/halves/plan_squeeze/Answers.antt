use Rattle.std.proofs.Common.{true, sym, arith}
use Rattle.std.proofs.lemmas.Result.{err_from_is_err_and}
use Rattle.model.specs.Machine.{of_squeeze}
use Rattle.outcomes.specs.Outcomes.{bucket_tested}
use Rattle.journal.specs.Journal.{Disk, disk}
use Rattle.cuts.specs.Journalled.{tested_with}
use Rattle.cuts.specs.Halves.{plan_squeeze}
use Rattle.index.specs.SqueezeLaws.{squeeze-sound, squeeze-range, all-passed}
use Rattle.index.specs.HalvesLaws.{too_short, step-refused, step-passed}
use Rattle.index.proofs.halves.plan_squeeze.Goals as goal

pub returns-then-plan-lt5632 : goal.returns-then-plan-lt5632
unfolding plan_squeeze
returns-then-plan-lt5632 c = too_short _ _ c.if-plan-lt5632.true

pub returns-in_err-test_squeeze : goal.returns-in_err-test_squeeze
unfolding plan_squeeze
returns-in_err-test_squeeze c =
    let a = c.args in
    let p = err_from_is_err_and c.from_residual.result c.from_residual.ensures.1 in
    rw (p.1, p.2)
    (step-refused a.plan.now c.if-plan-lt5632.false (of_squeeze a.bucket) a.store.now a.journal.now
    (bucket_tested (tested_with true (disk a.store.now a.journal.now)) a.bucket) _ (sym c.in_err-test_squeeze.ensures))

pub whole_chain-span-requires : goal.whole_chain-span-requires
whole_chain-span-requires c =
    let d : Disk = disk c.args.store.now c.args.journal.now in
    let good = sym c.in_ok-test_squeeze.ensures in (
      squeeze-sound d c.args.bucket true (λ i. omega (arith, c.type_inv.store i)) good,
      squeeze-range d c.args.bucket true (λ i. omega (arith, c.type_inv.store i)) good,
    )

pub lay_step-requires-clause-sound : goal.lay_step-requires-clause-sound
lay_step-requires-clause-sound c =
    squeeze-sound (disk c.args.store.now c.args.journal.now) c.args.bucket true
    (λ i. omega (arith, c.type_inv.store i)) (sym c.in_ok-test_squeeze.ensures)

pub returns : goal.returns
unfolding plan_squeeze
returns c =
    let a = c.args in
    step-passed a.plan.now c.if-plan-lt5632.false (of_squeeze a.bucket) a.store.now a.journal.now
    (bucket_tested (tested_with true (disk a.store.now a.journal.now)) a.bucket)
    (all-passed (disk a.store.now a.journal.now) a.bucket true (λ i. omega (arith, c.type_inv.store i)) (sym c.in_ok-test_squeeze.ensures))
    c.lay_step.ensures
