-- The check of bytes in pieces, and that it fits 32 bits.
use Rattle.std.specs.Prelude.{◌≡◌, refl, List, [], ◌∷◌, ◌++◌, ℕ, zero, suc, ◌+◌, ◌-◌, ◌*◌, ◌/◌, ◌%◌, ◌^◌, ◌≤◌, ◌<◌, length, get_or, drop}
use Rattle.std.proofs.Common.{ap, add-one, arith, drop_of_length-le, drop-cons}
use Rattle.std.specs.Int.Bits.{bit_xor}
use Rattle.std.proofs.lemmas.Nat.{xor_lt}
use Rattle.crc32c.specs.Crc.{polynomial, crc_bit, crc_bits, crc_byte, crc_bytes, crc_of}

-- the state after two runs of bytes
pub crc_bytes-append : (c : ℕ) (a b : List ℕ) → crc_bytes c (a ++ b) ≡ crc_bytes (crc_bytes c a) b
unfolding crc_bytes
crc_bytes-append c [] b = refl
crc_bytes-append c (x ∷ a) b = crc_bytes-append (crc_byte c x) a b

pub crc_of-append : (a b : List ℕ) → crc_of (a ++ b) ≡ 0xFFFFFFFF - crc_bytes (crc_bytes 0xFFFFFFFF a) b
unfolding crc_of
crc_of-append a b = ap (λ (c : ℕ). 0xFFFFFFFF - c) (crc_bytes-append 0xFFFFFFFF a b)

-- from place i on there is one byte, and the rest
pub crc_bytes-drop : (c : ℕ) (s : List ℕ) (i : ℕ) → i < length s
    → crc_bytes c (drop i s) ≡ crc_bytes (crc_byte c (get_or s i 0)) (drop (i + 1) s)
unfolding crc_bytes
crc_bytes-drop c s i h = rw (add-one i, drop-cons s i 0 h)

pub crc_bytes-end : (c : ℕ) (s : List ℕ) (i : ℕ) → length s ≤ i → crc_bytes c (drop i s) ≡ c
unfolding crc_bytes
crc_bytes-end c s i h = ap (crc_bytes c) (drop_of_length-le s h)

-- ---- 32 bits

crc_bit-lt : (c : ℕ) → c < 2 ^ 32 → crc_bit c < 2 ^ 32
unfolding crc_bit
crc_bit-lt c h = xor_lt 32 (c % 2 * polynomial) (c / 2) (omega arith) (omega arith)

pub crc_bits-lt : (k c : ℕ) → c < 2 ^ 32 → crc_bits k c < 2 ^ 32
unfolding crc_bits
crc_bits-lt zero c h = h
crc_bits-lt (suc k) c h = crc_bit-lt (crc_bits k c) (crc_bits-lt k c h)

pub crc_byte-lt : (c b : ℕ) → c < 2 ^ 32 → b < 256 → crc_byte c b < 2 ^ 32
unfolding crc_byte
crc_byte-lt c b h k = crc_bits-lt 8 (bit_xor b c) (xor_lt 32 b c (omega arith) h)

pub crc_bytes-lt : (c : ℕ) (l : List ℕ) → c < 2 ^ 32 → ((i : ℕ) → get_or l i 0 < 256) → crc_bytes c l < 2 ^ 32
unfolding crc_bytes
crc_bytes-lt c [] h bytes = h
crc_bytes-lt c (b ∷ l) h bytes = crc_bytes-lt (crc_byte c b) l (crc_byte-lt c b h (bytes 0)) (λ i. bytes (suc i))

pub crc_of-lt : (l : List ℕ) → crc_of l < 2 ^ 32
unfolding crc_of
crc_of-lt l = omega arith
