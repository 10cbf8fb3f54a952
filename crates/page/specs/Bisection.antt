-- The place that a bisection finds.
use Rattle.std.specs.Prelude.{ℕ, ◌≤◌, ◌<◌}

-- from `low` up to `high`, the places where the key is below `bound` are those before `place`
pub record Splits (key : ℕ → ℕ → Type 0) (low high bound place : ℕ) : Type 0 where
  pub from : low ≤ place
  pub upto : place ≤ high
  pub before : (k r : ℕ) → low ≤ k → k < high → key k r → r < bound → k < place
  pub after : (k r : ℕ) → low ≤ k → k < high → key k r → bound ≤ r → place ≤ k
