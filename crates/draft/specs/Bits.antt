-- A bit of a bitmap block is set or cleared.
use Rattle.std.specs.Prelude.{Bool, true, false, List, ℕ, ◌-◌, ◌/◌, ◌%◌, ◌^◌, get_or, set}
use Rattle.std.specs.Int.Bits.{bit_and, bit_or}

-- the byte x with its bit j
abbrev pub with_bit : (x j : ℕ) → Bool → ℕ
with_bit x j true = bit_or x (2 ^ j)
with_bit x j false = bit_and x (255 - 2 ^ j)

-- the block with its bit n, "lowest bit of a byte first"
unfoldable pub put_bit : List ℕ → ℕ → Bool → List ℕ
put_bit b n value = set b (n / 8) (with_bit (get_or b (n / 8) 0) (n % 8) value)
