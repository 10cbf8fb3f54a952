-- A page of a chain at its index, with the number of entries before it.
use Rattle.std.specs.Prelude.{◌≡◌, List, [], ◌∷◌, ℕ, zero, suc, ◌+◌, ◌*◌, ◌≤◌, ◌<◌, length, get_or, take}
use Rattle.lists.specs.Lists.{bind}
use Rattle.page.specs.declared.Entry.{Entry}
use Rattle.model.specs.Index.{Chain, Index, chain, old_bucket}
use Rattle.frame.specs.Frame.{chain_blocks, entries_after}
use Rattle.chain.specs.Within.{entries_on}
use Rattle.split.specs.declared.Spot.{Spot}

-- g is the page at its index of the blocks ks; before that of index i stand `front i` entries, and before g none that
-- does not stand before the place k
pub record Marks (ks : List ℕ) (front : ℕ → ℕ) (g : Spot) (k : ℕ) : Type 0 where
  pub inside : g.index < length ks
  pub block : g.block ≡ get_or ks g.index 0
  pub passed : g.passed ≡ front g.index
  pub near : g.passed ≤ k
  pub few : g.passed ≤ 40 * g.index

-- how many entries the first i of the pages have
abbrev pub front_size : ℕ → List (List Entry) → ℕ
front_size zero ps = 0
front_size (suc i) [] = 0
front_size (suc i) (es ∷ ps) = length es + front_size i ps

abbrev pub pages_in : Chain → List (List Entry)
pages_in c = c.first ∷ entries_after c.more

-- in the blocks ks of a store; in the old chain of an index
abbrev pub SpotOn : List ℕ → List ℕ → Spot → ℕ → Type 0
SpotOn s ks = Marks ks (λ i. length (bind (take i ks) (entries_on s)))

abbrev pub SpotIn : Index → Spot → ℕ → Type 0
SpotIn x =
    let c = chain x (old_bucket x) in
    Marks (chain_blocks x (old_bucket x) c) (λ i. front_size i (pages_in c))

-- the first page of the chain from a block on
abbrev pub first_page : (first : ℕ) → Spot
first_page first = record { block = first; index = 0; passed = 0 }
