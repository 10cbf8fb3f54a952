use Rattle.std.proofs.Common.{arith, length, rules, ◌≡◌}
use Rattle.journal.specs.WriteLaws.{head_with-sealed}
use Rattle.journal.proofs.plan.head_as.Goals as goal

pub returns : goal.returns
returns c =
    let a = c.args in
    let eight : length a.change.numbers ≡ 8 = search rules in
    cc (head_with-sealed a.number a.change.count a.change.numbers (omega arith) (omega arith) a.k)
