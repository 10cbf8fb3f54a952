use Rattle.std.proofs.Common.{arith}
use Rattle.draft.proofs.Moving.{images-shifted}
use Rattle.draft.proofs.open.shift_images.Goals as goal

pub returns : goal.returns
returns c =
    let m = c.copy_within.ensures in
    images-shifted _ _ c.args.at c.args.count c.requires.0 c.requires.1 c.requires.2 (omega arith) m.by_index.1 m.by_index.0
