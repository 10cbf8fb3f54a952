-- Room for an entry among the bytes of a page, made and closed.
use Rattle.std.specs.Prelude.{◌≡◌, List, ◌++◌, ℕ, ◌+◌, ◌-◌, ◌≤◌, ◌<◌, length, take, drop}
use Rattle.std.proofs.Math.Seq.{slice, paste}
use Rattle.endian.specs.Endian.{u16_at}

-- the bytes from a up to b moved up by twelve
unfoldable pub opened : List ℕ → ℕ → ℕ → List ℕ
opened l a b = take (a + 12) l ++ (slice a b l ++ drop (b + 12) l)

-- the bytes from a + 12 up to b moved down by twelve
unfoldable pub closed : List ℕ → ℕ → ℕ → List ℕ
closed l a b = paste l a (drop (a + 12) l) (b - (a + 12))

-- what an insertion at slot k asks of a page's bytes
pub record Room (l : List ℕ) (k : ℕ) : Type 0 where
  pub whole : length l ≡ 512
  pub space : u16_at l 0 < 40
  pub place : k ≤ u16_at l 0

-- what a removal from slot k asks of a page's bytes
pub record Held (l : List ℕ) (k : ℕ) : Type 0 where
  pub whole : length l ≡ 512
  pub small : u16_at l 0 ≤ 40
  pub place : k < u16_at l 0
