-- What the private functions on the pending line give, byte by byte. A reader of feed's contract need not read it.
use Rattle.std.specs.Prelude.{ℕ, ◌+◌, cond, List, nat_lt, slice_set}
use Rattle.line.specs.Command.{max_line}
use Rattle.interpreter.specs.declared.ScriptState.{ScriptState}
use Rattle.interpreter.specs.Feed.{too_many}

-- the state with another pending line
abbrev pub with_line : ScriptState → (seen : ℕ) → (line : List ℕ) → ScriptState
with_line c n l = record { number = c.number; seen = n; line = l; blocks = c.blocks }

-- one byte more
abbrev pub kept : ScriptState → ℕ → ScriptState
kept c b =
    cond (nat_lt c.seen max_line) (with_line c (c.seen + 1) (slice_set c.line c.seen b)) (with_line c too_many c.line)
