-- The shape of a block but for its check.
use Rattle.std.specs.Prelude.{◌≡◌, List, ◌++◌, ℕ, length}
use Rattle.store.specs.Store.{trailer}

-- the block l has the front part, the trailer of these fields, and any four bytes for its check
pub record Shaped (l front : List ℕ) (prev next bucket flags : ℕ) : Type 0 where
  pub rest : List ℕ
  pub four : length rest ≡ 4
  pub whole : l ≡ front ++ (trailer prev next bucket flags ++ rest)
