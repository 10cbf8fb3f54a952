-- A store is a list of bytes; its block k is the 512 bytes from 512 * k on.
use Rattle.std.specs.Prelude.{List, ◌++◌, ℕ, ◌+◌, ◌*◌, ◌/◌, length, take, drop}

-- the number of whole blocks
unfoldable pub blocks : List ℕ → ℕ
blocks s = length s / 512

unfoldable pub block : List ℕ → ℕ → List ℕ
block s k = take 512 (drop (512 * k) s)

-- the store with b in the place of its block k
unfoldable pub set_block : List ℕ → ℕ → List ℕ → List ℕ
set_block s k b = take (512 * k) s ++ (b ++ drop (512 * k + 512) s)
