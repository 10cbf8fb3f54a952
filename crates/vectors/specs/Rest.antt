-- What is left of a line.
use Rattle.std.specs.Prelude.{◌≡◌, ◌-◌, ◌≤◌, ℕ, List, length, drop}

-- `rest` is what is left of `line` after some bytes of its front are taken, or none.
pub record RestOf (rest line : List ℕ) : Type 0 where
  pub upto : length rest ≤ length line
  pub left : rest ≡ drop (length line - length rest) line
