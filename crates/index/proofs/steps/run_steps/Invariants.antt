use Rattle.image.specs.Decode.{decode}
use Rattle.journal.specs.Journal.{disk}
use Rattle.index.specs.SoundLaws.{Working}
use Rattle.index.proofs.steps.run_steps.Given as goal

abbrev pub invariant-loop-steps : goal.invariant-loop-steps
invariant-loop-steps g l = record {
  working : Working (g.P.Planner.kind l.planner) l.budget (disk l.fn.store l.fn.journal) (disk l.store l.journal) l.steps;
  begins : g.P.Planner.begins l.planner (decode l.store) l.from;
}
