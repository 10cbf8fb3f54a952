use Rattle.std.proofs.Common.{◌≡◌, suc}
use Rattle.lists.specs.Lists.{all}
use Rattle.image.specs.Decode.{max_at}
use Rattle.image.specs.Rules.{buckets}
use Rattle.shape.specs.LoopLaws.{left}
use Rattle.entries.specs.Counts.{prev_ok}
use Rattle.entries.proofs.counts.check_prevs.Given as goal

abbrev pub invariant-loop-b : goal.invariant-loop-b
invariant-loop-b l =
    left (prev_ok l.store) (suc (max_at l.store)) l.b ≡ all (prev_ok l.store) (buckets l.store)
