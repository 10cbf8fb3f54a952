-- The stores that stand in scripts.
use Rattle.std.specs.Prelude.{◌≡◌, ℕ, ◌+◌, ◌*◌, ◌≤◌, ◌≢◌, List, [], ◌∷◌, length, take, replicate, Err}
use Rattle.line.specs.Command.{max_line, read_line}
use Rattle.model.specs.declared.Refusal.{Refusal}
use Rattle.model.specs.Index.{idle, Index}
use Rattle.model.specs.WellFormed.{WF}
use Rattle.image.specs.Layout.{encode}
use Rattle.outcomes.specs.Outcomes.{lookup_outcome}
use Rattle.interpreter.specs.declared.ScriptState.{ScriptState}
use Rattle.interpreter.specs.Script.{lent, run_command}
use Rattle.interpreter.specs.Feed.{too_many, store_bytes}
use Rattle.interpreter.specs.Script.{script_blocks}

-- the indexes that a script's calls make from a format on: only a begin makes a job, and it makes a bucket
pub record Made (x : Index) : Type 0 where
  pub wf : WF x
  pub begun : x.job ≢ idle → 2 ≤ x.max_bucket
  pub small : x.size ≤ script_blocks

-- none, or the bytes of such an index
pub data ScriptStore : List ℕ → Type 0 where
  empty : ScriptStore []
  bytes : (x : Index) → Made x → ScriptStore (encode x)

-- the stores that the lines after line n run on
abbrev pub stands_at : (n : ℕ) → (store : List ℕ) → List (List ℕ) → List (List ℕ)
stands_at n s [] = []
stands_at n s (l ∷ ls) = s ∷ stands_at (n + 1) (run_command (read_line l) (n + 1) s).store ls

-- every lookup of the store has room in the bytes that are lent
abbrev pub NotShort : List ℕ → Type 0
NotShort s = (h m : ℕ) → (lookup_outcome s h (replicate lent 0)).answer ≢ Err (Refusal.OutputShort m)

-- a struct and a lent store that a script can have
pub record Serves (c : ScriptState) (store : List ℕ) : Type 0 where
  pub seen : c.seen ≤ too_many
  pub whole : length c.line ≡ max_line
  pub few : c.blocks ≤ script_blocks
  pub room : store_bytes ≤ length store
  pub stands : ScriptStore (take (512 * c.blocks) store)
