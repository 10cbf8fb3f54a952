-- Old stores read as before (docs/RULES.md 4.9): a store of at most 128 blocks is judged and read by document 01's
-- addresses, and an index of that size is written and split by them.
use Rattle.std.specs.Prelude.{List, ℕ, ◌≤◌}
use Rattle.lists.specs.Block.{blocks}
use Rattle.model.specs.Index.{Index}
use Rattle.model.specs.WellFormed.{Laid}
use Rattle.image.specs.Before.{old_blocks, StoreAsBefore, IndexAsBefore}
use Rattle.image.proofs.BeforeLaws.{store-before, index-before}

-- of every byte string, sound or not
pub old-stores : (s : List ℕ) → blocks s ≤ old_blocks → StoreAsBefore s
old-stores = store-before

-- of every index that a sound store holds
pub old-changes : (x : Index) → Laid x → x.size ≤ old_blocks → IndexAsBefore x
old-changes = index-before
