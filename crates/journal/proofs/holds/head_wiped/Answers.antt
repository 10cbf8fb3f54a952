use Rattle.journal.specs.Journal.{head_wiped}
use Rattle.journal.proofs.holds.head_wiped.Goals as goal

pub returns : goal.returns
unfolding head_wiped
returns c = cc
