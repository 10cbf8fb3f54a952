use Rattle.std.proofs.Common.{arith}
use Rattle.text.specs.Text.{place_text}
use Rattle.text.specs.TextLaws.{then-wrote, digits-16, digits-32}
use Rattle.text.proofs.put_place.Goals as goal

pub put_number-b-requires : goal.put_number-b-requires
put_number-b-requires c = omega (arith, digits-32 c.get_u32-block.result (omega arith))

pub put_bytes-c-requires : goal.put_bytes-c-requires
put_bytes-c-requires c = omega (arith, digits-32 c.get_u32-block.result (omega arith))

pub put_number-requires : goal.put_number-requires
put_number-requires c =
    omega (arith, digits-32 c.get_u32-block.result (omega arith), digits-16 c.get_u16-offset.result (omega arith))

pub returns : goal.returns
unfolding place_text
returns c =
    let all = then-wrote (then-wrote (then-wrote c.put_bytes-a.ensures c.put_number-b.ensures)
    c.put_bytes-c.ensures)
    c.put_number.ensures in
    record {
      wrote = rw (c.get_u32-block.ensures, c.get_u16-offset.ensures) at all;
      upper_bound = omega (
        arith,
        c.put_bytes-a.ensures.ends,
        c.put_number-b.ensures.ends,
        c.put_bytes-c.ensures.ends,
        c.put_number.ensures.ends,
        digits-32 c.get_u32-block.result (omega arith),
        digits-16 c.get_u16-offset.result (omega arith),
      );
    }
