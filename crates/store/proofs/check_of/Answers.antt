use Rattle.std.proofs.Common.{arith, length-take-le, sym}
use Rattle.store.specs.Store.{covered, check_of}
use Rattle.store.proofs.check_of.Goals as goal

pub slice_bounds-crc32c_after-end : goal.slice_bounds-crc32c_after-end
slice_bounds-crc32c_after-end c = sym (length-take-le _ c.args.part.now (omega arith))

pub returns : goal.returns
unfolding check_of covered
returns c = c.crc32c_after.ensures
