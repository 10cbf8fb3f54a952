use Rattle.page.specs.Gap.{closed}
use Rattle.page.proofs.edit.close_gap.Goals as goal

pub returns : goal.returns
unfolding closed
returns c = c.copy_within.ensures.after
