-- CRC-32C (RFC 3720, 12.1), bit by bit: the reflected polynomial, all ones at the start, the complement at the end.
-- `bit_xor` is the logic's exclusive or, which computes in as many steps as its first argument has digits, so that is
-- the shorter one.
use Rattle.std.specs.Prelude.{List, [], ◌∷◌, ℕ, zero, suc, ◌-◌, ◌*◌, ◌/◌, ◌%◌}
use Rattle.std.specs.Int.Bits.{bit_xor}

-- RFC 3720's polynomial, 0x11EDC6F41, without its highest power and with its bits in the other order
abbrev pub polynomial : ℕ
polynomial = 0x82F63B78

-- one bit: shifted down, with the polynomial where a one falls out
unfoldable pub crc_bit : ℕ → ℕ
crc_bit c = bit_xor (c % 2 * polynomial) (c / 2)

-- k bits
unfoldable pub crc_bits : ℕ → ℕ → ℕ
unfolding crc_bit
crc_bits zero c = c
crc_bits (suc k) c = crc_bit (crc_bits k c)

-- a byte: into the eight low bits, then eight bits
unfoldable pub crc_byte : ℕ → ℕ → ℕ
unfolding crc_bits
crc_byte c b = crc_bits 8 (bit_xor b c)

-- the state c after some bytes
unfoldable pub crc_bytes : ℕ → List ℕ → ℕ
unfolding crc_byte
crc_bytes c [] = c
crc_bytes c (b ∷ bs) = crc_bytes (crc_byte c b) bs

-- the check of a list of bytes
unfoldable pub crc_of : List ℕ → ℕ
unfolding crc_bytes
crc_of l = 0xFFFFFFFF - crc_bytes 0xFFFFFFFF l
