-- Two walks: of the chain of a hash code's own bucket, and of the old chain that its pairs are still held in, of no
-- block where there is none. Where there is one, only the fresh entries of the own chain, the unmoved ones, are held.
use Rattle.std.specs.Prelude.{Bool, false, List, ◌++◌, ℕ, Option}
use Rattle.std.specs.Option.{option_or}
use Rattle.lists.specs.Lists.{bind}
use Rattle.page.specs.declared.Pair.{Pair}
use Rattle.chain.specs.declared.Found.{Found}
use Rattle.chain.specs.Within.{entries_on}
use Rattle.chain.specs.Search.{find_in}
use Rattle.chain.specs.Pairs.{pairs_in}

module _ (s own old : List ℕ) where
  -- the pairs of a hash code that are held along the walks
  abbrev pub pairs_along : (hash : ℕ) (fresh : Bool) → List Pair
  pairs_along h fresh = pairs_in h fresh (bind own (entries_on s)) ++ pairs_in h false (bind old (entries_on s))

  -- the block and slot of a pair: what stands in the own chain and not in the old one is unmoved
  abbrev pub find_along : Pair → Option Found
  find_along p = option_or (find_in s old p) (find_in s own p)
