use Rattle.std.proofs.Common.{arith}
use Rattle.batch.specs.RunningLaws.{running_none, running-next, running-end}
use Rattle.batch.proofs.run_batch.Goals as goal

pub loop-i-init : goal.loop-i-init
loop-i-init c = running_none _ _ _

pub bounds-words-i : goal.bounds-words-i
bounds-words-i c = omega (arith, c.loop-i.invariant.words)

pub loop-i-preserved : goal.loop-i-preserved
loop-i-preserved c =
    running-next c.loop-i.invariant (omega arith) c.run_at.ensures c.run_at.auto.store
    c.run_at.auto.journal c.run_at.auto.output

pub returns : goal.returns
returns c = record { value = c.min-n.ensures; words_after = running-end c.loop-i.invariant (omega arith) }
