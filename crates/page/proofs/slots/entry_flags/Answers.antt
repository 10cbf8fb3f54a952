use Rattle.page.proofs.slots.entry_flags.Goals as goal

pub returns-then-moved : goal.returns-then-moved
returns-then-moved c = rw c.if-moved.true

pub returns-else-moved : goal.returns-else-moved
returns-else-moved c = rw c.if-moved.false
