use Rattle.page.specs.Entries.{read_entry, entry_at}
use Rattle.page.proofs.slots.get_code.Goals as goal

pub returns : goal.returns
unfolding entry_at read_entry
returns c = c.get_u32.ensures
