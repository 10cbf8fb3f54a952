-- The pairs of a hash code among entries: what lookup is built on.
use Rattle.std.specs.Prelude.{Bool, true, false, not, ◌&&◌, List, map, ℕ, eqb}
use Rattle.lists.specs.Lists.{keep}
use Rattle.page.specs.declared.Pair.{Pair}
use Rattle.page.specs.declared.Entry.{Entry}
use Rattle.page.specs.Pair.{pair_of}

-- whether an entry counts: where only fresh ones do, an unmoved one
abbrev pub counts : (fresh : Bool) → Entry → Bool
counts true e = not e.moved
counts false e = true

abbrev pub is_match : (hash : ℕ) (fresh : Bool) → Entry → Bool
is_match h fresh e = counts fresh e && eqb e.pair.hash h

unfoldable pub pairs_in : (hash : ℕ) (fresh : Bool) → List Entry → List Pair
pairs_in h fresh es = map pair_of (keep (is_match h fresh) es)
