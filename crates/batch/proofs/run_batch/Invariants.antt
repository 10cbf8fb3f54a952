use Rattle.std.proofs.Common.{List, ℕ}
use Rattle.journal.specs.Journal.{disk}
use Rattle.batch.specs.Batch.{Kept}
use Rattle.batch.specs.RunningLaws.{Running}
use Rattle.batch.proofs.run_batch.Given as goal

abbrev kept : (store journal output words : List ℕ) → Kept
kept s j out ws = record { disk = disk s j; output = out; words = ws }

abbrev pub invariant-loop-i : goal.invariant-loop-i
invariant-loop-i l =
    Running l.calls l.n (kept l.fn.store l.fn.journal l.fn.output l.fn.words) (kept l.store l.journal l.output l.words) l.i
