use Rattle.std.proofs.Common.{◌∙◌, arith}
use Rattle.page.specs.GapLaws.{opened-paste}
use Rattle.page.proofs.edit.open_gap.Goals as goal

pub returns : goal.returns
returns c = c.copy_within.ensures.after ∙ opened-paste c.args.p.now c.args.from c.args.to (omega arith)
