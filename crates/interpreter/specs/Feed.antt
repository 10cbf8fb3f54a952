-- What start, feed and finish give, for all states and slices: the whole struct, the lent store and the output.
-- And a script that is run by a list of these calls.
use Rattle.std.specs.Prelude.{ℕ, suc, ◌+◌, ◌*◌, ◌%◌, ◌^◌, min, Bool, true, false, cond, ◌&&◌, Option, None, List, [], ◌∷◌, ◌++◌, length, take, drop, replicate, ◌==◌, nat_le, nat_lt}
use Rattle.std.proofs.lemmas.List.Edits.{sets}
use Rattle.lists.specs.Block.{blocks}
use Rattle.line.specs.declared.Command.{Command}
use Rattle.line.specs.Words.{span}
use Rattle.line.specs.Command.{max_line, read_line}
use Rattle.text.specs.Text.{line_output}
use Rattle.interpreter.specs.declared.ScriptState.{ScriptState}
use Rattle.interpreter.specs.declared.Fed.{Fed}
use Rattle.interpreter.specs.Script.{Turn, script_blocks, run_command}

-- ---- the state

-- before the first byte of a script
abbrev pub start_state : ScriptState
start_state = record { number = 0; seen = 0; line = replicate max_line 0; blocks = 0 }

-- what `seen` is where a line has more than 80 bytes
abbrev pub too_many : ℕ
too_many = 81

-- bytes more of the pending line: they are put after those that are there, as many as there is room for
abbrev pub gathered : ScriptState → List ℕ → ScriptState
gathered c bs =
    record {
      number = c.number;
      seen = min too_many (c.seen + length bs);
      line = sets c.line c.seen bs;
      blocks = c.blocks;
    }

-- ---- room

abbrev pub store_bytes : ℕ
store_bytes = 512 * script_blocks

-- a state within its bounds, and slices that are long enough
abbrev pub ready : ScriptState → (store output : List ℕ) → Bool
ready c store out =
    nat_le c.seen too_many
    && (nat_le c.blocks script_blocks && (nat_le store_bytes (length store) && nat_le line_output (length out)))

-- ---- the outcomes

-- An answer, and the lent store and the output that it leaves.
pub record Feeding : Type 0 where
  pub fed : Fed
  pub store : List ℕ
  pub output : List ℕ

-- what a call answered and left
abbrev pub fed_as : Fed → (store output : List ℕ) → Feeding
fed_as r store out = record { fed = r; store = store; output = out }

-- nothing is written
abbrev pub still : (ready : Bool) → (used : ℕ) → ScriptState → (store output : List ℕ) → Feeding
still y n c store out = fed_as (record { ready = y; state = c; used = n; written = 0 }) store out

-- the call of the pending line
abbrev pub pending_command : ScriptState → Option Command
pending_command c = cond (nat_le c.seen max_line) (read_line (take c.seen c.line)) None

-- the number of the line after line n, in the struct's 64 bits
abbrev pub next_line : ℕ → ℕ
next_line n = (n + 1) % 2 ^ 64

-- what the pending line writes and leaves; the standing store is the first N blocks of the lent one
abbrev pub line_turn : ScriptState → (store : List ℕ) → Turn
line_turn c store = run_command (pending_command c) (next_line c.number) (take (512 * c.blocks) store)

-- bytes put at the start of others
abbrev pub over : List ℕ → List ℕ → List ℕ
over xs ys = xs ++ drop (length xs) ys

-- after the pending line, on the store t
abbrev pub next_state : ScriptState → (t : List ℕ) → ScriptState
next_state c t = record { number = next_line c.number; seen = 0; line = c.line; blocks = blocks t }

-- the pending line ends and is run
abbrev pub line_ends : (used : ℕ) → ScriptState → (store output : List ℕ) → Feeding
line_ends n c store out =
    let t = line_turn c store in
    fed_as (record { ready = true; state = next_state c t.store; used = n; written = length t.text })
    (over t.store store) (over t.text out)

-- the bytes up to the first LF, and the line that ends there; or all, if there is no LF
unfoldable pub feed_outcome : ScriptState → (store input output : List ℕ) → Feeding
feed_outcome c store input out =
    let n = span 10 input in
    let g = gathered c (take n input) in
    cond (ready c store out)
    (cond (nat_lt n (length input)) (line_ends (suc n) g store out) (still true n g store out))
    (still false 0 c store out)

-- a last line that lacks its LF is run
unfoldable pub finish_outcome : ScriptState → (store output : List ℕ) → Feeding
finish_outcome c store out =
    cond (ready c store out)
    (cond (c.seen == 0) (still true 0 c store out) (line_ends 0 c store out))
    (still false 0 c store out)

-- ---- a script run by calls

-- The slices that a call of feed is lent.
pub record Lent : Type 0 where
  pub input : List ℕ
  pub output : List ℕ

-- What calls used of their inputs, and what they wrote.
pub record Handled : Type 0 where
  pub used : List ℕ
  pub text : List ℕ

-- a feed for each of `calls`, and a finish that is lent `last`; each call is handed the state and the store that the
-- one before it left
abbrev pub feeds : ScriptState → (store : List ℕ) → (calls : List Lent) → (last : List ℕ) → Handled
feeds c store [] last =
    let f = finish_outcome c store last in record { used = []; text = take f.fed.written f.output }
feeds c store (l ∷ ls) last =
    let f = feed_outcome c store l.input l.output in
    let r = feeds f.fed.state f.store ls last in
    record { used = take f.fed.used l.input ++ r.used; text = take f.fed.written f.output ++ r.text }
