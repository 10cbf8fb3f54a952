use Rattle.std.proofs.Common.{arith, sym}
use Rattle.journal.proofs.Parts.{length-of-body}
use Rattle.journal.proofs.holds.end_copies.Goals as goal

pub slice_bounds-eq-end : goal.slice_bounds-eq-end
slice_bounds-eq-end c =
    sym (length-of-body _ c.args.journal.now 15 c.block_at.ensures (omega arith))

pub slice_bounds-eq-end-2 : goal.slice_bounds-eq-end-2
slice_bounds-eq-end-2 c =
    sym (length-of-body _ c.args.journal.now 0 c.block_at-2.ensures (omega arith))
