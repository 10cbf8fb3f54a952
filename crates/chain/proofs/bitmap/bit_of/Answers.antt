use Rattle.std.proofs.Common.{arith, refl}
use Rattle.chain.proofs.bitmap.bit_of.Goals as goal

pub overflow_cast-at : goal.overflow_cast-at
overflow_cast-at c = omega arith

pub bounds-map-at : goal.bounds-map-at
bounds-map-at c = omega arith

pub overflow_cast-result : goal.overflow_cast-result
overflow_cast-result c = omega arith

pub overflow_shr-result : goal.overflow_shr-result
overflow_shr-result c = omega arith

pub returns : goal.returns
returns c = refl
