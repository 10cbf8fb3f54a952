use Rattle.std.proofs.Common.{◌≡◌, ◌∙◌, Ok, arith}
use Rattle.model.specs.declared.Stop.{Stop}
use Rattle.model.specs.Answers.{work_of}
use Rattle.journal.specs.Journal.{disk}
use Rattle.index.specs.SoundLaws.{working-next, working-stop, working-spent}
use Rattle.index.proofs.steps.run_steps.Goals as goal

pub returns-in-Err : goal.returns-in-Err
returns-in-Err g c =
    working-stop _ c.loop-steps.invariant.working c.loop-steps-test.true c.in-Err.ensures.stepped

pub loop-steps-preserved : goal.loop-steps-preserved
loop-steps-preserved g c =
    let i = c.loop-steps.invariant in
    record {
      working =
          working-next _ i.working c.loop-steps-test.true c.in-Ok.ensures.stepped c.write_step.auto.store
          (c.write_step.auto.journal ∙ i.working.sixteen);
      begins = c.in-Ok.ensures.begins;
    }

pub returns : goal.returns
returns g c =
    let i = c.loop-steps.invariant.working in
    let all : c.loop-steps.steps ≡ c.args.budget = omega (arith, i.within, c.loop-steps-test.false) in
    working-spent _ i c.loop-steps-test.false
    ∙ (λ j. record {
      answer = Ok (work_of (all j) Stop.Spent);
      disk = disk c.loop-steps.store c.loop-steps.journal;
    })
