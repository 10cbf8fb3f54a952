-- Four bytes that go into the state at once, and the check of two numbers before other bytes.
use Rattle.std.specs.Prelude.{◌≡◌, refl, List, ◌++◌, ℕ, ◌+◌, ◌-◌, ◌/◌, ◌%◌, ◌^◌, ◌≤◌, ◌<◌, length, take, drop}
use Rattle.std.proofs.Common.{sym, ap, ap₂, ◌∙◌, arith, take-append-drop, drop-drop}
use Rattle.std.specs.Int.Bits.{bit_xor}
use Rattle.lists.specs.Bytes.{Bytes}
use Rattle.endian.specs.Endian.{le32, u32_at}
use Rattle.endian.proofs.EndianLaws.{le32-read}
use Rattle.crc32c.specs.Crc.{crc_bits, crc_byte, crc_bytes, crc_of}
use Rattle.crc32c.specs.CrcLaws.{crc_bytes-append, crc_of-append}
use Rattle.crc32c.specs.TableLaws.{low_byte}

crc_bytes-le32 : (c w : ℕ)
    → crc_bytes c (le32 w)
    ≡ crc_byte (crc_byte (crc_byte (crc_byte c (w % 256)) (w / 256 % 256)) (w / 65536 % 256)) (w / 16777216 % 256)
unfolding crc_bytes le32
crc_bytes-le32 c w = refl

pub crc_bytes-four : (c w : ℕ) → w < 2 ^ 32
    → crc_bits 8 (crc_bits 8 (crc_bits 8 (crc_bits 8 (bit_xor w c)))) ≡ crc_bytes c (le32 w)
crc_bytes-four c w h =
    let second : w / 256 / 256 ≡ w / 65536 = omega arith in
    let third : w / 65536 / 256 ≡ w / 16777216 = omega arith in
    let none : w / 16777216 / 256 ≡ 0 = omega arith in
    let c₁ = crc_byte c (w % 256) in
    let c₂ = crc_byte c₁ (w / 256 % 256) in
    let c₃ = crc_byte c₂ (w / 65536 % 256) in
    let c₄ = crc_byte c₃ (w / 16777216 % 256) in
    ap (λ (x : ℕ). crc_bits 8 (crc_bits 8 (crc_bits 8 x))) (low_byte w c)
    ∙ ap (λ (x : ℕ). crc_bits 8 (crc_bits 8 x)) (low_byte (w / 256) c₁ ∙ ap (λ (x : ℕ). bit_xor x c₂) second)
    ∙ ap (crc_bits 8) (low_byte (w / 65536) c₂ ∙ ap (λ (x : ℕ). bit_xor x c₃) third)
    ∙ low_byte (w / 16777216) c₃
    ∙ ap (λ (x : ℕ). bit_xor x c₄) none
    ∙ sym (crc_bytes-le32 c w)

-- from place i on there are four bytes, and the rest
pub crc_bytes-fours : (c : ℕ) (s : List ℕ) (i : ℕ) → i + 4 ≤ length s → Bytes s
    → crc_bytes c (drop i s) ≡ crc_bytes (crc_bytes c (le32 (u32_at s i))) (drop (i + 4) s)
crc_bytes-fours c s i h bytes =
    ap (crc_bytes c) (sym (take-append-drop 4 (drop i s)))
    ∙ crc_bytes-append c (take 4 (drop i s)) (drop 4 (drop i s))
    ∙ ap₂ crc_bytes (ap (crc_bytes c) (sym (le32-read s bytes i h))) (drop-drop 4 i s)

-- two numbers, and then the bytes of s
pub crc_of-words : (first second : ℕ) (s : List ℕ) → crc_of (le32 first ++ (le32 second ++ s))
    ≡ 0xFFFFFFFF - crc_bytes (crc_bytes (crc_bytes 0xFFFFFFFF (le32 first)) (le32 second)) s
crc_of-words first second s =
    crc_of-append (le32 first) (le32 second ++ s)
    ∙ ap (λ (c : ℕ). 0xFFFFFFFF - c) (crc_bytes-append (crc_bytes 0xFFFFFFFF (le32 first)) (le32 second) s)
