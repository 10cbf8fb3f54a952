-- What private functions need and leave: a line's turn, made in a lent store and output. A reader of feed's
-- contract need not read it.
use Rattle.std.specs.Prelude.{◌≡◌, ℕ, ◌*◌, ◌≤◌, List, length, Ok, Err}
use Rattle.text.specs.Text.{line_output}
use Rattle.text.specs.Wrote.{Wrote}
use Rattle.interpreter.specs.Script.{Turn}
use Rattle.model.specs.Answers.{LookupAnswer}
use Rattle.interpreter.specs.Feed.{store_bytes, over}
use Rattle.interpreter.specs.Script.{script_blocks}

-- the store that stands is that of the turn, of `blocks` blocks, and later bytes stay
pub record Stands (t : List ℕ) (old new : List ℕ) (blocks : ℕ) : Type 0 where
  pub few : blocks ≤ script_blocks
  pub size : length t ≡ 512 * blocks
  pub bytes : new ≡ over t old

pub record Runs (t : Turn) (old new : List ℕ) (blocks : ℕ) (before after : List ℕ) (written : ℕ) : Type 0 where
  pub store : Stands t.store old new blocks
  pub text : Wrote before 0 t.text after written

-- what a line needs: a store that a script can make, and slices that are long enough
pub record Room (blocks : ℕ) (s out : List ℕ) : Type 0 where
  pub few : blocks ≤ script_blocks
  pub store : store_bytes ≤ length s
  pub output : line_output ≤ length out

-- the matches that a lookup found stand in its output
abbrev pub Roomy : LookupAnswer → List ℕ → Type 0
Roomy (Ok matches) places = (matches ≤ 5000) × (6 * matches ≤ length places)
Roomy (Err r) places = Unit {0}
