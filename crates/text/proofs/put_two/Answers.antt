use Rattle.std.proofs.Common.{arith}
use Rattle.text.specs.TextLaws.{then-wrote, digits-64}
use Rattle.text.proofs.put_two.Goals as goal

pub put_number-d-requires : goal.put_number-d-requires
put_number-d-requires c = omega (arith, digits-64 c.args.a c.ranges.a.fits)

pub put_bytes-e-requires : goal.put_bytes-e-requires
put_bytes-e-requires c = omega (arith, digits-64 c.args.a c.ranges.a.fits)

pub put_number-f-requires : goal.put_number-f-requires
put_number-f-requires c = omega (arith, digits-64 c.args.a c.ranges.a.fits, digits-64 c.args.b c.ranges.b.fits)

pub put_bytes-requires : goal.put_bytes-requires
put_bytes-requires c = omega (arith, digits-64 c.args.a c.ranges.a.fits, digits-64 c.args.b c.ranges.b.fits)

pub returns : goal.returns
returns c =
    then-wrote (then-wrote (then-wrote (then-wrote c.put_bytes-c.ensures c.put_number-d.ensures)
    c.put_bytes-e.ensures)
    c.put_number-f.ensures) c.put_bytes.ensures
