-- A test of rule 2's spares.
use Rattle.std.specs.Prelude.{Bool, List, ℕ, suc, leb, get_or}

-- spares[i] is at most spares[i + 1]
abbrev pub rises : List ℕ → ℕ → Bool
rises sp i = leb (get_or sp i 0) (get_or sp (suc i) 0)
