use Rattle.page.specs.Entries.{entry_at}
use Rattle.page.proofs.slots.get_entry.Goals as goal

pub returns : goal.returns
unfolding entry_at
returns c = c.read_entry.ensures
