use Rattle.std.proofs.Common.{◌≡◌}
use Rattle.image.specs.Rules.{lowest_damaged}
use Rattle.verify.proofs.Judging.{damaged_from}
use Rattle.verify.proofs.judge.Given as goal

abbrev pub invariant-loop-block : goal.invariant-loop-block
invariant-loop-block l = damaged_from l.store l.block ≡ lowest_damaged l.store
