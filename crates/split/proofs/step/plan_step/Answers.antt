use Rattle.view.specs.ReadsLaws.{reads_known}
use Rattle.split.proofs.step.plan_step.Goals as goal

pub read_job-phase-requires : goal.read_job-phase-requires
read_job-phase-requires c = reads_known c.requires.reads
