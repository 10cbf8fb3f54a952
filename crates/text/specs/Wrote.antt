-- What the functions that write text leave in a lent output.
use Rattle.std.specs.Prelude.{◌≡◌, List, ℕ, ◌+◌, ◌≤◌, length}
use Rattle.std.proofs.lemmas.List.Edits.{sets}

-- `text` was written over `old` from `at` on, up to `end`, and had room there
pub record Wrote (old : List ℕ) (at : ℕ) (text new : List ℕ) (end : ℕ) : Type 0 where
  pub bytes : new ≡ sets old at text
  pub ends : end ≡ at + length text
  pub fits : end ≤ length old
