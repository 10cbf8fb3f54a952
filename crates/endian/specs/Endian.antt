-- Little-endian numbers in a list of bytes.
use Rattle.std.specs.Prelude.{List, [], ◌∷◌, ℕ, ◌+◌, ◌*◌, ◌/◌, ◌%◌, get_or}

-- a 16-bit number as two bytes, the lowest first
unfoldable pub le16 : ℕ → List ℕ
le16 n = n % 256 ∷ n / 256 % 256 ∷ []

-- a 32-bit number as four bytes, the lowest first
unfoldable pub le32 : ℕ → List ℕ
le32 n = n % 256 ∷ n / 256 % 256 ∷ n / 65536 % 256 ∷ n / 16777216 % 256 ∷ []

-- the 16-bit number at place i
unfoldable pub u16_at : List ℕ → ℕ → ℕ
u16_at l i = get_or l i 0 + get_or l (i + 1) 0 * 256

-- the 32-bit number at place i
unfoldable pub u32_at : List ℕ → ℕ → ℕ
u32_at l i = get_or l i 0 + get_or l (i + 1) 0 * 256 + get_or l (i + 2) 0 * 65536 + get_or l (i + 3) 0 * 16777216
