-- What the program keeps so that its sums fit.
use Rattle.std.specs.Prelude.{ℕ, ◌<◌, List, get_or}

abbrev pub Small : List ℕ → Type 0
Small sp = (i : ℕ) → get_or sp i 0 < 65536
