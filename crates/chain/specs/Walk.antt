-- The blocks of a chain, of any bytes: its first block and those that the next fields lead to, in at most N steps.
use Rattle.std.specs.Prelude.{◌≡◌, List, ◌∷◌, ℕ, suc, pred, ◌*◌, ◌≤◌, ◌<◌, length, get_or, take}
use Rattle.lists.specs.Lists.{Each}
use Rattle.lists.specs.Block.{blocks}
use Rattle.address.specs.Limits.{max_blocks}
use Rattle.image.specs.Decode.{follow}

-- a store of whole blocks, of which there are no more than a walk has room for
pub record Sized (s : List ℕ) : Type 0 where
  pub whole : length s ≡ 512 * blocks s
  pub few : blocks s ≤ max_blocks

-- the blocks of the chain that starts with the block `first`
unfoldable pub walk : List ℕ → (first : ℕ) → List ℕ
walk s first = first ∷ follow s (blocks s) first

-- the chain that starts with the block `first` stays in the store, and ends
pub record Bounded (s : List ℕ) (first : ℕ) : Type 0 where
  pub inside : Each (λ k. k < blocks s) (walk s first)
  pub short : length (walk s first) ≤ blocks s

-- the last block of a chain
abbrev pub last_of : List ℕ → ℕ
last_of ks = get_or ks (pred (length ks)) 0

-- the first n of bs, an array with room for any walk, are the walk from the block `first`
pub record Walked (s : List ℕ) (first : ℕ) (bs : List ℕ) (n : ℕ) : Type 0 where
  pub blocks : take n bs ≡ walk s first
  pub count : n ≡ length (walk s first)
  pub room : length bs ≡ suc max_blocks
