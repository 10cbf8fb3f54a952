use Rattle.std.proofs.Common.{sym, arith, rules}
use lib.Seq.{length-take-le}
use Rattle.draft.proofs.Clearing.{filled-front}
use Rattle.draft.proofs.pages.zero_block.Goals as goal

pub slice_bounds-fill-end-2 : goal.slice_bounds-fill-end-2
slice_bounds-fill-end-2 c = sym (length-take-le 508 c.args.part.now (omega arith))

pub returns : goal.returns
returns c = filled-front c.args.part.now c.fill.new.self 508 (omega arith) (c.fill.ensures.after (search rules))
