use Rattle.std.proofs.Common.{arith}
use Rattle.text.specs.DigitsLaws.{digits-few}
use Rattle.text.specs.Text.{found_text}
use Rattle.text.specs.TextLaws.{then-wrote}
use Rattle.text.proofs.put_found.Goals as goal

pub put_number-a-requires : goal.put_number-a-requires
put_number-a-requires c = omega (arith, digits-few 3 c.args.count (omega arith))

pub put_bytes-b-requires : goal.put_bytes-b-requires
put_bytes-b-requires c = omega (arith, digits-few 3 c.args.count (omega arith))

pub put_places-c-requires : goal.put_places-c-requires
put_places-c-requires c = (c.requires.0, omega (arith, digits-few 3 c.args.count (omega arith)))

pub put_bytes-requires : goal.put_bytes-requires
put_bytes-requires c = omega (arith, digits-few 3 c.args.count (omega arith))

pub returns : goal.returns
unfolding found_text
returns c =
    then-wrote (then-wrote (then-wrote c.put_number-a.ensures c.put_bytes-b.ensures) c.put_places-c.ensures.wrote)
    c.put_bytes.ensures
