-- The free places that a chain has before its last page: a squeeze fills one with each step, so it has at most as many
-- steps left.
use Rattle.std.specs.Prelude.{List, [], ◌∷◌, ℕ, ◌+◌, ◌-◌, length}
use Rattle.model.specs.Index.{Page, Chain}
use Rattle.model.specs.Squeeze.{earlier}

abbrev pub gaps : List Page → ℕ
gaps [] = 0
gaps (g ∷ gs) = (40 - length g.entries) + gaps gs

abbrev pub gaps_in : Chain → ℕ
gaps_in c = (40 - length c.first) + gaps c.more

-- by the overflow pages: a chain of one page has none before its last
abbrev pub spare_in : List Page → (before : Chain) → ℕ
spare_in [] c = 0
spare_in (g ∷ gs) c = gaps_in c

unfoldable pub spare : Chain → ℕ
spare c = spare_in c.more (earlier c)
