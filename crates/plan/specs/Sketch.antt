-- A sketch: a draft whose edits are counted, with the blocks that they were made to.
use Rattle.std.specs.Prelude.{◌≡◌, List, ℕ, ◌≤◌, ◌<◌}
use Rattle.lists.specs.Lists.{Each}
use Rattle.lists.specs.Block.{blocks, block}
use Rattle.store.specs.declared.Change.{Change}
use Rattle.frame.specs.Frame.{Apart}
use Rattle.draft.specs.Draft.{Draft, Listed}

-- the draft d of the change c lists at most n blocks, those of ks among them, and every other block is the store's
pub record Sketch (s : List ℕ) (c : Change) (images d : List ℕ) (n : ℕ) (ks : List ℕ) : Type 0 where
  pub draft : Draft s c images d
  pub few : c.count ≤ n
  pub listed : Each (Listed c) ks
  pub rest : (k : ℕ) → k < blocks s → Apart k ks → block d k ≡ block s k
