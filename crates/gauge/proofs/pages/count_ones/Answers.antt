use Rattle.std.proofs.Common.{sym, arith}
use Rattle.gauge.specs.OnesLaws.{ones-start, ones-turn, ones-le}
use Rattle.gauge.proofs.pages.count_ones.Goals as goal

pub loop-n-init : goal.loop-n-init
loop-n-init c = sym (ones-start c.args.map.now)

pub overflow_add-ones : goal.overflow_add-ones
overflow_add-ones c = omega (arith, c.bit_of.ensures, ones-le c.args.map.now c.loop-n.n)

pub loop-n-preserved : goal.loop-n-preserved
loop-n-preserved c = omega (arith, c.bit_of.ensures, ones-turn c.args.map.now c.loop-n.n)
