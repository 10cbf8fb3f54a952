use Rattle.std.proofs.Common.{arith}
use Rattle.page.specs.Entries.{read_entry}
use Rattle.page.proofs.run.reading_key.Goals as goal

pub returns : goal.returns
unfolding read_entry
returns c = omega arith
