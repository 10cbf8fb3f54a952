-- A change is finished: its images get their checks and are written to the store.
use Rattle.std.specs.Prelude.{◌≡◌, List, ℕ, ◌<◌}
use Rattle.lists.specs.Lists.{bind, up_from}
use Rattle.lists.specs.Block.{blocks, block}
use Rattle.store.specs.declared.Change.{Change}
use Rattle.store.specs.Store.{sealed, number_at}
use Rattle.store.specs.Change.{commits, seals}

-- the store after a change whose images are sealed first, as of the store with this number
unfoldable pub finished_as : (number : ℕ) → List ℕ → Change → List ℕ → List ℕ
finished_as number s c images = commits s c.numbers (seals number c.numbers images c.count) c.count

-- the same with the number that the store has
unfoldable pub finished : List ℕ → Change → List ℕ → List ℕ
finished s = finished_as (number_at s) s

-- the store with every check written anew
unfoldable pub resealed : (number : ℕ) → List ℕ → List ℕ
resealed number d = bind (up_from 0 (blocks d)) (λ k. sealed number k (block d k))

-- every block has the right check
abbrev pub Sealed : List ℕ → Type 0
Sealed s = (k : ℕ) → k < blocks s → sealed (number_at s) k (block s k) ≡ block s k
