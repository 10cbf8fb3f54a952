-- A check tells states apart, and so two 32-bit numbers at the same place among the same bytes.
use Rattle.std.specs.Prelude.{◌≡◌, refl, ◌≢◌, List, [], ◌∷◌, ◌++◌, ℕ, zero, suc, ◌-◌, ◌*◌, ◌/◌, ◌%◌, ◌^◌, ◌<◌}
use Rattle.std.proofs.Common.{sym, ap, ◌∙◌, arith}
use Rattle.std.specs.Int.Bits.{bit_xor, xor_zero_r}
use Rattle.std.proofs.lemmas.Nat.{xor_lt, xor_shr}
use Rattle.lists.specs.Bytes.{Bytes}
use Rattle.endian.specs.Endian.{le32}
use Rattle.endian.proofs.EndianLaws.{Bytes-le32}
use Rattle.crc32c.specs.Crc.{polynomial, crc_bit, crc_bits, crc_byte, crc_bytes, crc_of}
use Rattle.crc32c.specs.CrcLaws.{crc_bits-lt, crc_byte-lt, crc_bytes-lt, crc_of-append}
use Rattle.crc32c.specs.XorLaws.{xor-cancel-left, xor-cancel-right}
use Rattle.crc32c.specs.FoursLaws.{crc_bytes-four, crc_of-words}

-- ---- states

-- the highest bit after a step is the one that fell out: the polynomial has it, and half of 32 bits has not
crc_bit-top : (c : ℕ) → c < 2 ^ 32 → crc_bit c / 2 ^ 31 ≡ c % 2
unfolding crc_bit
crc_bit-top c h =
    let none : c / 2 / 2 ^ 31 ≡ 0 = omega arith in
    let one : c % 2 * polynomial / 2 ^ 31 ≡ c % 2 = omega arith in
    xor_shr (c % 2 * polynomial) (c / 2) 31
    ∙ ap (bit_xor (c % 2 * polynomial / 2 ^ 31)) none
    ∙ xor_zero_r (c % 2 * polynomial / 2 ^ 31)
    ∙ one

-- so a step tells two states apart
crc_bit-inj : (c d : ℕ) → c < 2 ^ 32 → d < 2 ^ 32 → crc_bit c ≡ crc_bit d → c ≡ d
unfolding crc_bit
crc_bit-inj c d hc hd e =
    let low : c % 2 ≡ d % 2 = sym (crc_bit-top c hc) ∙ ap (λ (x : ℕ). x / 2 ^ 31) e ∙ crc_bit-top d hd in
    let same = e ∙ ap (λ (x : ℕ). bit_xor (x * polynomial) (d / 2)) (sym low) in
    let high : c / 2 ≡ d / 2 = xor-cancel-left (c % 2 * polynomial) (c / 2) (d / 2) same in
    omega (arith, low, high)

-- any number of steps
crc_bits-inj : (k c d : ℕ) → c < 2 ^ 32 → d < 2 ^ 32 → crc_bits k c ≡ crc_bits k d → c ≡ d
unfolding crc_bits
crc_bits-inj zero c d hc hd e = e
crc_bits-inj (suc k) c d hc hd e =
    crc_bits-inj k c d hc hd (crc_bit-inj (crc_bits k c) (crc_bits k d) (crc_bits-lt k c hc) (crc_bits-lt k d hd) e)

-- the same byte after two states
crc_byte-inj : (b c d : ℕ) → b < 256 → c < 2 ^ 32 → d < 2 ^ 32 → crc_byte c b ≡ crc_byte d b → c ≡ d
unfolding crc_byte
crc_byte-inj b c d hb hc hd e =
    xor-cancel-left b c d
    (crc_bits-inj 8 (bit_xor b c) (bit_xor b d) (xor_lt 32 b c (omega arith) hc) (xor_lt 32 b d (omega arith) hd) e)

-- the same bytes after two states
pub crc_bytes-inj : (l : List ℕ) (c d : ℕ) → Bytes l → c < 2 ^ 32 → d < 2 ^ 32 → crc_bytes c l ≡ crc_bytes d l → c ≡ d
unfolding crc_bytes
crc_bytes-inj [] c d bytes hc hd e = e
crc_bytes-inj (b ∷ l) c d bytes hc hd e =
    crc_byte-inj b c d (bytes 0) hc hd
    (crc_bytes-inj l (crc_byte c b) (crc_byte d b) (λ i. bytes (suc i)) (crc_byte-lt c b hc (bytes 0))
    (crc_byte-lt d b hd (bytes 0)) e)

-- ---- numbers

-- two numbers after the same state
crc_bytes-le32-inj : (c v w : ℕ) → c < 2 ^ 32 → v < 2 ^ 32 → w < 2 ^ 32
    → crc_bytes c (le32 v) ≡ crc_bytes c (le32 w) → v ≡ w
unfolding crc_bits
crc_bytes-le32-inj c v w hc hv hw e =
    xor-cancel-right c v w
    (crc_bits-inj 32 (bit_xor v c) (bit_xor w c) (xor_lt 32 v c hv hc) (xor_lt 32 w c hw hc)
    (crc_bytes-four c v hv ∙ e ∙ sym (crc_bytes-four c w hw)))

-- ---- checks

-- a number taken in at state c, then the bytes of l, and the complement of that
complement-inj : (c v w : ℕ) (l : List ℕ) → Bytes l → c < 2 ^ 32 → v < 2 ^ 32 → w < 2 ^ 32
    → 0xFFFFFFFF - crc_bytes (crc_bytes c (le32 v)) l ≡ 0xFFFFFFFF - crc_bytes (crc_bytes c (le32 w)) l → v ≡ w
complement-inj c v w l bytes hc hv hw e =
    let a : crc_bytes c (le32 v) < 2 ^ 32 = crc_bytes-lt c (le32 v) hc (Bytes-le32 v) in
    let b : crc_bytes c (le32 w) < 2 ^ 32 = crc_bytes-lt c (le32 w) hc (Bytes-le32 w) in
    crc_bytes-le32-inj c v w hc hv hw
    (crc_bytes-inj l _ _ bytes a b (omega (arith, e, crc_bytes-lt _ l a bytes, crc_bytes-lt _ l b bytes)))

-- a number before the bytes of l
pub crc_of-first-inj : (v w : ℕ) (l : List ℕ) → Bytes l → v < 2 ^ 32 → w < 2 ^ 32
    → crc_of (le32 v ++ l) ≡ crc_of (le32 w ++ l) → v ≡ w
crc_of-first-inj v w l bytes hv hw e =
    complement-inj 0xFFFFFFFF v w l bytes (omega arith) hv hw
    (sym (crc_of-append (le32 v) l) ∙ e ∙ crc_of-append (le32 w) l)

-- the second of two numbers before the bytes of l
pub crc_of-second-inj : (n v w : ℕ) (l : List ℕ) → Bytes l → v < 2 ^ 32 → w < 2 ^ 32
    → crc_of (le32 n ++ (le32 v ++ l)) ≡ crc_of (le32 n ++ (le32 w ++ l)) → v ≡ w
crc_of-second-inj n v w l bytes hv hw e =
    complement-inj (crc_bytes 0xFFFFFFFF (le32 n)) v w l bytes
    (crc_bytes-lt 0xFFFFFFFF (le32 n) (omega arith) (Bytes-le32 n)) hv hw
    (sym (crc_of-words n v l) ∙ e ∙ crc_of-words n w l)

-- ---- eight zero bytes before others

eight-zeros : crc_bytes (crc_bytes 0xFFFFFFFF (le32 0)) (le32 0) ≡ 0x73D74D75
unfolding crc_bytes le32
eight-zeros = refl

crc_of-is : (l : List ℕ) → crc_of l ≡ 0xFFFFFFFF - crc_bytes 0xFFFFFFFF l
unfolding crc_of
crc_of-is l = refl

-- they change every check
pub crc_of-zeros : (l : List ℕ) → Bytes l → crc_of l ≢ crc_of (le32 0 ++ (le32 0 ++ l))
crc_of-zeros l bytes e =
    let c = crc_bytes (crc_bytes 0xFFFFFFFF (le32 0)) (le32 0) in
    let small : c < 2 ^ 32 = omega (arith, eight-zeros) in
    let same : 0xFFFFFFFF ≡ c =
    crc_bytes-inj l 0xFFFFFFFF c bytes (omega arith) small
    (omega (
      arith,
      sym (crc_of-is l) ∙ e ∙ crc_of-words 0 0 l,
      crc_bytes-lt 0xFFFFFFFF l (omega arith) bytes,
      crc_bytes-lt c l small bytes,
    )) in
    omega (arith, same, eight-zeros)
