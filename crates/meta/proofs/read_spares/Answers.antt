use Rattle.std.proofs.Common.{arith, length-set, refl}
use Rattle.image.specs.Decode.{words_at}
use Rattle.meta.proofs.Words.{read-turn}
use Rattle.meta.proofs.read_spares.Goals as goal

pub loop-i-init : goal.loop-i-init
unfolding words_at
loop-i-init c = (refl, refl)

pub loop-i-preserved : goal.loop-i-preserved
loop-i-preserved c =
    let l = c.loop-i in (
      simp length-set l.invariant.0,
      read-turn c.args.part.now l.spares 40 l.i c.get_u32.result (omega arith) c.get_u32.ensures l.invariant.1,
    )
