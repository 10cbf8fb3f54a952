use Rattle.std.proofs.Common.{◌≡◌, take}
use Rattle.journal.specs.Journal.{disk, run}
use Rattle.journal.specs.Planned.{plan_stores}
use Rattle.journal.proofs.plan.run_plan.Given as goal

abbrev pub invariant-loop-n : goal.invariant-loop-n
invariant-loop-n l =
    run (take l.n (plan_stores l.plan)) (disk l.initial.store l.initial.journal) ≡ disk l.store l.journal
