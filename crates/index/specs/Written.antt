-- A planned change that is to be written with a journal: it lists exactly the blocks that it alters.
use Rattle.std.specs.Prelude.{◌≢◌, List, ℕ}
use Rattle.lists.specs.Block.{block}
use Rattle.store.specs.declared.Change.{Change}
use Rattle.store.specs.Change.{Fits}
use Rattle.store.specs.Finish.{finished}
use Rattle.draft.specs.Draft.{Listed}

pub record Alters (s : List ℕ) (c : Change) (images : List ℕ) : Type 0 where
  pub fits : Fits s c.numbers c.count
  pub differ : (k : ℕ) → Listed c k → block s k ≢ block (finished s c images) k
