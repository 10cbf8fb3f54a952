-- A change of some blocks: the first n of a list of numbers, and images, block j of which is what the block that the
-- j-th number names is to become.
use Rattle.std.specs.Prelude.{List, ℕ, zero, suc, ◌+◌, ◌*◌, ◌≤◌, ◌<◌, length, get_or}
use Rattle.lists.specs.Block.{block, set_block}
use Rattle.store.specs.Store.{sealed}

-- s after n block stores, the j-th of which puts b j into block at j
unfoldable pub copies : List ℕ → (at : ℕ → ℕ) → (b : ℕ → List ℕ) → ℕ → List ℕ
copies s at b zero = s
copies s at b (suc n) = set_block (copies s at b n) (at n) (b n)

-- the images after the first n are sealed
unfoldable pub seals : (number : ℕ) → (numbers images : List ℕ) → ℕ → List ℕ
seals number numbers images n = copies images (λ j. j) (λ j. sealed number (get_or numbers j 0) (block images j)) n

-- the store after the j-th block store
unfoldable pub stored : List ℕ → List ℕ → List ℕ → ℕ → List ℕ
stored s numbers images j = set_block s (get_or numbers j 0) (block images j)

-- the store after the first n block stores
unfoldable pub commits : List ℕ → List ℕ → List ℕ → ℕ → List ℕ
commits s numbers images n = copies s (λ j. get_or numbers j 0) (block images) n

-- at most eight blocks of the store, in ascending order
pub record Fits (s numbers : List ℕ) (n : ℕ) : Type 0 where
  pub few : n ≤ 8
  pub inside : (j : ℕ) → j < n → 512 * get_or numbers j 0 + 512 ≤ length s
  pub ascending : (i j : ℕ) → i < j → j < n → get_or numbers i 0 < get_or numbers j 0
