-- The pairs of a hash code written out, and what it takes to write them.
use Rattle.std.specs.Prelude.{◌≡◌, true, List, ◌++◌, ℕ, ◌*◌, ◌≤◌, length, drop}
use Rattle.lists.specs.Lists.{bind}
use Rattle.page.specs.declared.Pair.{Pair}
use Rattle.page.specs.Pair.{ascending}
use Rattle.model.specs.Held.{self, sorted}
use Rattle.model.specs.Calls.{place_bytes}

-- "6 bytes a match (reading block, offset), ascending; later output bytes stay"
unfoldable pub written : List Pair → (output : List ℕ) → List ℕ
written ps out = bind ps place_bytes ++ drop (6 * length ps) out

-- no pair is there twice, and there is room for all
pub record Listable (ps : List Pair) (output : List ℕ) : Type 0 where
  pub ascends : ascending self (sorted ps) ≡ true
  pub room : 6 * length ps ≤ length output
