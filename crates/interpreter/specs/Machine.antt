-- A script run byte by byte: what is kept between bytes, and what each byte writes. It stands in the proof between
-- script_output and feed, and the program's own contracts cite it: who reads Script.antt and Feed.antt to believe the
-- theorems need not read it.
use Rattle.std.specs.Prelude.{ℕ, ◌*◌, cond, Option, None, List, [], ◌∷◌, ◌++◌, length, take, ◌==◌, nat_le, nat_lt}
use Rattle.line.specs.declared.Command.{Command}
use Rattle.line.specs.Command.{max_line, read_line}
use Rattle.interpreter.specs.declared.ScriptState.{ScriptState}
use Rattle.interpreter.specs.Script.{run_command}
use Rattle.interpreter.specs.Feed.{next_line}

-- The line that has not ended yet: its bytes, or that there are more than 80.
pub data Pending : Type 0 where
  short : List ℕ → Pending
  long : Pending

abbrev pub grow : Pending → ℕ → Pending
grow (short l) b = cond (nat_lt (length l) max_line) (short (l ++ (b ∷ []))) long
grow long b = long

abbrev pub command_at : Pending → Option Command
command_at (short l) = read_line l
command_at long = None

-- `line` is the number of the last line that ended.
pub record State : Type 0 where
  pub pending : Pending
  pub line : ℕ
  pub store : List ℕ

abbrev pub starting : State
starting = record { pending = short []; line = 0; store = [] }

-- A state after some bytes, and what they wrote.
pub record Reached : Type 0 where
  pub state : State
  pub text : List ℕ

abbrev pub end_line : State → Reached
end_line s =
    let n = next_line s.line in
    let t = run_command (command_at s.pending) n s.store in
    record { state = record { pending = short []; line = n; store = t.store }; text = t.text }

abbrev pub keep_byte : State → ℕ → Reached
keep_byte s b =
    record { state = record { pending = grow s.pending b; line = s.line; store = s.store }; text = [] }

abbrev pub on_byte : State → ℕ → Reached
on_byte s b = cond (b == 10) (end_line s) (keep_byte s b)

abbrev pub on_bytes : State → List ℕ → Reached
on_bytes s [] = record { state = s; text = [] }
on_bytes s (b ∷ bs) =
    let r = on_byte s b in
    let q = on_bytes r.state bs in
    record { state = q.state; text = r.text ++ q.text }

-- the end of the input: a last line that lacks its LF is run
abbrev pub end_in : Pending → State → Reached
end_in (short []) s = record { state = s; text = [] }
end_in (short (b ∷ bs)) s = end_line s
end_in long s = end_line s

abbrev pub at_end : State → Reached
at_end s = end_in s.pending s

-- a script that comes in pieces: what they write, one after the other, and the end
abbrev pub on_pieces : State → List (List ℕ) → List ℕ
on_pieces s [] = (at_end s).text
on_pieces s (p ∷ ps) = let r = on_bytes s p in r.text ++ on_pieces r.state ps

-- ---- the state that a struct and a lent store stand for

abbrev pub pending_in : ScriptState → Pending
pending_in c = cond (nat_le c.seen max_line) (short (take c.seen c.line)) long

-- the standing store is the first N blocks of the lent one
abbrev pub state_of : ScriptState → (store : List ℕ) → State
state_of c store = record { pending = pending_in c; line = c.number; store = take (512 * c.blocks) store }

-- a run that left a struct and a lent store
abbrev pub ran_as : ScriptState → (store text : List ℕ) → Reached
ran_as c store text = record { state = state_of c store; text = text }
