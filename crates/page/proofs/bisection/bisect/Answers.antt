use Rattle.std.proofs.Common.{ℕ, ◌+◌, ◌-◌, ltb, arith}
use Rattle.page.proofs.Bisect.{half, advance-le, turn}
use Rattle.page.proofs.bisection.bisect.Goals as goal

pub loop-left-preserved : goal.loop-left-preserved
loop-left-preserved g c =
    let v = c.loop-left in
    let n = c.one_if_below in
    let r = c.key in
    let mid : ℕ = v.at + half v.left - 1 in
    record {
      from = omega arith;
      upto = omega (arith, v.invariant.upto, advance-le v.left n.result (ltb r.result c.args.bound) n.ensures);
      between = λ place s.
          turn place v.at v.left r.result c.args.bound n.result (omega arith) (v.invariant.between place s)
          (s.before mid r.result (omega arith) (omega arith) r.ensures)
          (s.after mid r.result (omega arith) (omega arith) r.ensures) n.ensures;
    }

pub returns : goal.returns
returns g c place s =
    let b = c.loop-left.invariant.between place s in
    omega (arith, b.low, b.high)
