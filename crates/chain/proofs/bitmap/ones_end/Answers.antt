use Rattle.std.proofs.Common.{arith, ◌+◌, ◌/◌}
use Rattle.chain.specs.BitmapLaws.{ones-full, ones-end}
use Rattle.chain.proofs.bitmap.ones_end.Goals as goal

pub returns-then-is_full : goal.returns-then-is_full
returns-then-is_full c =
    let a = c.args in
    let full = ones-full a.map.now ((a.from + 7) / 8) (omega arith) (c.is_full.ensures c.if-is_full.true) in
    (omega arith, omega arith, omega arith, full)

pub returns : goal.returns
returns c = (omega arith, omega arith, omega arith, ones-end _)
