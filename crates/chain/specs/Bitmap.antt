-- The lowest 0 bit of a bitmap block, and whether the bits from one on are all 1; bits as rule 6 reads them. In
-- a sound store the 0 bits are the free ones.
use Rattle.std.specs.Prelude.{◌≡◌, Bool, List, ℕ, ◌-◌, ◌≤◌, ◌<◌, eqb, get_or, Option, Some, None, unwrap_or}
use Rattle.std.proofs.Math.Option.{Option as Maybe, none, some}
use Rattle.lists.specs.Lists.{all, find, up_from}
use Rattle.image.specs.Decode.{bit_of}

abbrev pub free_as : Maybe ℕ → Option ℕ
free_as none = None
free_as (some n) = Some n

-- "the lowest 0 bit"
unfoldable pub lowest_free : List ℕ → Option ℕ
lowest_free l = free_as (find (λ n. eqb (bit_of l n) 0) (up_from 0 2048))

-- "Bit 1 means in use or not yet made": the bits from k on
unfoldable pub ones_from : List ℕ → (k : ℕ) → Bool
ones_from l k = all (λ n. eqb (bit_of l n) 1) (up_from k (2048 - k))

-- the bytes from place at on are all ones
abbrev pub Full : List ℕ → (at : ℕ) → Type 0
Full l at = (i : ℕ) → at ≤ i → i < 256 → get_or l i 0 ≡ 255

-- "the lowest 0 bit or, without one, spares[s]"
abbrev pub free_or : (top : ℕ) → Option ℕ → ℕ
free_or top free = unwrap_or free top
