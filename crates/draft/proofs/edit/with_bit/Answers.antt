use Rattle.std.proofs.Common.{rules}
use Rattle.draft.specs.BitLaws.{one_byte}
use Rattle.draft.proofs.edit.with_bit.Goals as goal

pub returns-then-value : goal.returns-then-value
returns-then-value c = rw (c.if-value.true, one_byte c.args.j c.requires)

pub returns-else-value : goal.returns-else-value
returns-else-value c = rw (c.if-value.false, one_byte c.args.j c.requires)
