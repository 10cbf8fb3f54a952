use Rattle.journal.specs.WriteLaws.{wiped-written}
use Rattle.journal.proofs.holds.wiped_head.Goals as goal

pub returns : goal.returns
returns c = cc wiped-written
