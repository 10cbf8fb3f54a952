use Rattle.std.proofs.Common.{eqb}
use Rattle.page.specs.Entries.{read_entry}
use Rattle.page.proofs.slots.read_entry.Goals as goal

pub returns : goal.returns
unfolding read_entry
returns c i =
    let hash = c.get_u32.ensures in
    let block = c.get_u32-2.ensures in
    let offset = c.get_u16.ensures in
    record {
      pair = record { hash = hash i; block = block i; offset = offset i };
      moved = eqb (c.get_u16-2.ensures i) 0x2000;
    }
