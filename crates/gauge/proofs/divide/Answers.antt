use Rattle.std.proofs.Common.{◌<◌, ◌^◌, arith, rules}
use Rattle.gauge.specs.QuotientLaws.{div-quotient}
use Rattle.gauge.proofs.divide.Goals as goal

pub returns : goal.returns
returns c =
    let a : c.args.a < 2 ^ 32 = search rules in
    let b : c.args.b < 2 ^ 32 = search rules in
    div-quotient c.args.a c.args.b (omega arith) (omega arith) c.requires
