use Rattle.std.proofs.Common.{refl, arith}
use Rattle.text.specs.Text.{place_text}
use Rattle.text.specs.TextLaws.{then-wrote, wrote-length, bind-more}
use Rattle.text.proofs.put_places.Goals as goal

pub loop-i-init : goal.loop-i-init
loop-i-init c =
    record { upper_bound = omega arith; wrote = record { bytes = refl; ends = omega arith; fits = omega arith } }

pub put_place-end-requires : goal.put_place-end-requires
put_place-end-requires c = (omega arith, omega (arith, wrote-length c.loop-i.invariant.wrote))

pub loop-i-preserved : goal.loop-i-preserved
loop-i-preserved c =
    record {
      upper_bound = omega (arith, c.put_place-end.ensures.upper_bound);
      wrote = rw (← bind-more (place_text c.args.places.now) c.loop-i.i) at
          (then-wrote c.loop-i.invariant.wrote c.put_place-end.ensures.wrote);
    }
