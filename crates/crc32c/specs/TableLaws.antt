-- The table's rule, and eight single-bit steps by way of the table.
use Rattle.std.specs.Prelude.{◌≡◌, ℕ, zero, suc, ◌*◌, ◌/◌, ◌%◌, ◌^◌, ◌<◌, get_or}
use Rattle.std.proofs.Common.{sym, ap, ap₂, ◌∙◌, mul_assoc, mul_comm, mul-one, pow-suc, mod-lt, zero-add, arith, lit<}
use Rattle.std.proofs.Math.Pow.{split}
use Rattle.std.specs.Int.Bits.{bit_xor, xor_zero_r, xor_shifted}
use Rattle.std.proofs.lemmas.Nat.{xor_shr, xor_mod}
use Rattle.lists.specs.RunLaws.{get_or-run}
use Rattle.crc32c.specs.Crc.{polynomial, crc_bit, crc_bits, crc_byte}
use Rattle.crc32c.specs.Table.{byte_table}
use Rattle.crc32c.specs.XorLaws.{xor-swap, xor_assoc}

-- each number of the table is what eight single-bit steps make of its index
pub table-right : (n : ℕ) → n < 256 → get_or byte_table n 0 ≡ crc_bits 8 n
unfolding byte_table
table-right n h = get_or-run (crc_bits 8) 0 0 256 n h ∙ ap (crc_bits 8) (zero-add n)

-- steps leave what stands above the bits that they take as it is, shifted down
bit_high : (h y : ℕ) → crc_bit (bit_xor (h * 2) y) ≡ bit_xor h (crc_bit y)
unfolding crc_bit
bit_high h y =
    let half : h * 2 / 2 ≡ h = omega arith in
    let even : h * 2 % 2 ≡ 0 = omega arith in
    ap₂ (λ (odd rest : ℕ). bit_xor (odd * polynomial) rest)
    (xor_mod (h * 2) y 1 ∙ ap (λ (x : ℕ). bit_xor x (y % 2)) even)
    (xor_shr (h * 2) y 1 ∙ ap (λ (x : ℕ). bit_xor x (y / 2)) half)
    ∙ xor-swap (y % 2 * polynomial) h (y / 2)

bits-high : (k h y : ℕ) → crc_bits k (bit_xor (h * 2 ^ k) y) ≡ bit_xor h (crc_bits k y)
unfolding crc_bits
bits-high zero h y = ap (λ (x : ℕ). bit_xor x y) (mul-one h)
bits-high (suc k) h y =
    ap (λ (x : ℕ). crc_bit (crc_bits k (bit_xor x y)))
    (ap (λ (x : ℕ). h * x) (pow-suc 2 k ∙ mul_comm (2 ^ k) 2) ∙ sym (mul_assoc h 2 (2 ^ k)))
    ∙ ap crc_bit (bits-high k (h * 2) y)
    ∙ bit_high h (crc_bits k y)

-- of a number in the state, eight steps take the lowest byte
pub low_byte : (w c : ℕ) → crc_bits 8 (bit_xor w c) ≡ bit_xor (w / 256) (crc_byte c (w % 256))
unfolding crc_byte
low_byte w c =
    ap (λ (x : ℕ). crc_bits 8 (bit_xor x c))
    (sym (xor_shifted (w / 2 ^ 8) 8 (w % 2 ^ 8) (mod-lt w (lit< tt)) ∙ split w 8))
    ∙ ap (crc_bits 8) (xor_assoc (w / 256 * 2 ^ 8) (w % 256) c)
    ∙ bits-high 8 (w / 256) (bit_xor (w % 256) c)

-- eight steps by way of the table
pub bits-table : (x : ℕ) → crc_bits 8 x ≡ bit_xor (x / 256) (get_or byte_table (x % 256) 0)
unfolding crc_byte
bits-table x =
    ap (crc_bits 8) (sym (xor_zero_r x))
    ∙ low_byte x 0
    ∙ ap (bit_xor (x / 256))
    (ap (crc_bits 8) (xor_zero_r (x % 256)) ∙ sym (table-right (x % 256) (mod-lt x (lit< tt))))
