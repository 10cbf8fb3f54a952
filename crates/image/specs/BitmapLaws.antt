-- The bitmap's bytes 0..491: the bits are read as they were written, and bytes below 256 are those of their bits.
use Rattle.std.specs.Prelude.{◌≡◌, true, take}
use Rattle.std.proofs.Math.Path.{refl, sym, ap, ap₂}
use Rattle.std.proofs.Common.{◌∙◌, subst, length-append, ext_get_or, shr-shr, shr_lt}
use mathlib.Core.List.{List, ◌++◌, map, append_assoc}
use Prim.Native.Nat.{ℕ, zero, suc, ◌+◌, ◌*◌, ◌/◌, ◌%◌, ◌^◌, ◌<◌}
use Rattle.std.proofs.Math.Decide.{dec_lt}
use native.Mathlib.Omega.{arith}
use Rattle.std.proofs.Math.ListN.{length, get_or, replicate, get_or-append, get_or-eq_default}
use Rattle.std.proofs.lemmas.List.{length-map, length-replicate}
use Rattle.std.proofs.Math.Seq.{get_or-take, length-take-le}
use Rattle.std.proofs.Math.Nat.{pow-succ'}
use Rattle.lists.specs.Lists.{up_from}
use Rattle.lists.specs.RunLaws.{length_run, get_or-run}
use Rattle.lists.specs.Bytes.{Bytes, part, all_zero}
use Rattle.lists.specs.BytesLaws.{Bytes-append, length_part, part_at, part-part, all_zero-replicate, replicate-all_zero}
use Rattle.lists.specs.BytesLaws.{Bytes-replicate}
use Rattle.image.specs.Layout.{from_bits, map_front}
use Rattle.image.specs.Decode.{bit_of}
use Rattle.lists.specs.TestLaws.{map-run}

-- ---- a number and its binary digits

abbrev digit : ℕ → ℕ → ℕ
digit v j = v / 2 ^ j % 2

from_bits-lt : (f : ℕ → ℕ) → ((j : ℕ) → f j < 2) → (i k : ℕ) → from_bits (map f (up_from i k)) < 2 ^ k
from_bits-lt f h i zero = omega arith
from_bits-lt f h i (suc k) = omega (arith, h i, from_bits-lt f h (suc i) k, pow-succ' 2 k)

digit-from_bits : (f : ℕ → ℕ) → ((j : ℕ) → f j < 2) → (i k j : ℕ) → j < k
    → digit (from_bits (map f (up_from i k))) j ≡ f (i + j)
digit-from_bits f h i zero j l = absurd (omega arith)
digit-from_bits f h i (suc k) zero l =
    let z : i + 0 ≡ i = omega arith in
    let r : ℕ = from_bits (map f (up_from (suc i) k)) in
    let e : (f i + 2 * r) / 2 ^ 0 % 2 ≡ f i = omega (arith, h i) in
    e ∙ ap f (sym z)
digit-from_bits f h i (suc k) (suc j) l =
    let r : ℕ = from_bits (map f (up_from (suc i) k)) in
    let half : (f i + 2 * r) / 2 ^ 1 ≡ r = omega (arith, h i) in
    let e : 1 + j ≡ suc j = omega arith in
    let q : suc i + j ≡ i + suc j = omega arith in
    ap (λ (n : ℕ). (f i + 2 * r) / 2 ^ n % 2) (sym e)
    ∙ ap (λ (n : ℕ). n % 2) (sym (shr-shr (f i + 2 * r) 1 j) ∙ ap (λ (n : ℕ). n / 2 ^ j) half)
    ∙ digit-from_bits f h (suc i) k j (omega arith)
    ∙ ap f q

from_bits-digit : (v i k : ℕ) → v < 2 ^ (i + k) → from_bits (map (digit v) (up_from i k)) ≡ v / 2 ^ i
from_bits-digit v i zero h =
    let e : i + 0 ≡ 0 + i = omega arith in
    omega (arith, shr_lt 0 i (subst (λ (n : ℕ). v < 2 ^ n) e h))
from_bits-digit v i (suc k) h =
    let e : suc i + k ≡ i + suc k = omega arith in
    let ih = from_bits-digit v (suc i) k (subst (λ (n : ℕ). v < 2 ^ n) (sym e) h) in
    let s : suc i ≡ i + 1 = omega arith in
    let q : v / 2 ^ suc i ≡ v / 2 ^ i / 2 = ap (λ (n : ℕ). v / 2 ^ n) s ∙ sym (shr-shr v i 1) in
    omega (arith, ih, q)

-- ---- the bytes of bits

module _ (bit : ℕ → ℕ) where
  map_byte : ℕ → ℕ
  map_byte i = from_bits (map bit (up_from (8 * i) 8))

  map_front-parts : map_front bit ≡ map map_byte (up_from 0 256) ++ replicate 236 0
  unfolding map_front map_byte
  map_front-parts = refl

  length-bytes : length (map map_byte (up_from 0 256)) ≡ 256
  length-bytes = length-map (up_from 0 256) map_byte ∙ length_run 0 256

  byte_at : (i : ℕ) → i < 256 → get_or (map map_byte (up_from 0 256)) i 0 ≡ map_byte i
  byte_at i h = let z : 0 + i ≡ i = omega arith in get_or-run map_byte 0 0 256 i h ∙ ap map_byte z

  pub length-map_front : length (map_front bit) ≡ 492
  length-map_front =
      ap length map_front-parts
      ∙ length-append (map map_byte (up_from 0 256)) (replicate 236 0)
      ∙ omega (arith, length-bytes, length-replicate {A = ℕ} 236 0)

  pub zeros-map_front : (q : List ℕ) → all_zero (part 256 492 (map_front bit ++ q)) ≡ true
  zeros-map_front q =
      ap (λ (l : List ℕ). all_zero (part 256 492 (l ++ q))) map_front-parts
      ∙ ap (λ (l : List ℕ). all_zero (part 256 492 l)) (append_assoc (map map_byte (up_from 0 256)) (replicate 236 0) q)
      ∙ ap all_zero
      (part_at (map map_byte (up_from 0 256)) (replicate 236 0) q 256 492 length-bytes
      (omega (arith, length-replicate {A = ℕ} 236 0)))
      ∙ replicate-all_zero 236

  module _ (two : (n : ℕ) → bit n < 2) where
    byte-lt : (i : ℕ) → map_byte i < 256
    unfolding map_byte
    byte-lt i = from_bits-lt bit two (8 * i) 8

    byte-digit : (i j : ℕ) → j < 8 → digit (map_byte i) j ≡ bit (8 * i + j)
    unfolding map_byte
    byte-digit i j h = digit-from_bits bit two (8 * i) 8 j h

    pub Bytes-map_front : Bytes (map_front bit)
    Bytes-map_front =
        rw map_front-parts
        (Bytes-append (map map_byte (up_from 0 256)) (replicate 236 0) (λ i. at i (dec_lt i 256)) (Bytes-replicate 236))
      where
        at : (i : ℕ) → Dec (i < 256) → get_or (map map_byte (up_from 0 256)) i 0 < 256
        at i (yes h) = omega (arith, byte_at i h, byte-lt i)
        at i (no h) =
            omega (arith, get_or-eq_default (map map_byte (up_from 0 256)) 0 {n = i} (omega (arith, length-bytes)))

    pub bit_of-map_front : (q : List ℕ) (n : ℕ) → n < 2048 → bit_of (map_front bit ++ q) n ≡ bit n
    bit_of-map_front q n h =
        let i : ℕ = n / 8 in
        let small : i < 256 = omega arith in
        let front : get_or (map_front bit ++ q) i 0 ≡ map_byte i =
        get_or-append (map_front bit) q 0 i (omega (arith, length-map_front))
        ∙ ap (λ (l : List ℕ). get_or l i 0) map_front-parts
        ∙ get_or-append (map map_byte (up_from 0 256)) (replicate 236 0) 0 i (omega (arith, length-bytes))
        ∙ byte_at i small in
        let e : 8 * (n / 8) + n % 8 ≡ n = omega arith in
        ap (λ (v : ℕ). v / 2 ^ (n % 8) % 2) front ∙ byte-digit i (n % 8) (omega arith) ∙ ap bit e

-- ---- what was read is written

module _ (l : List ℕ) (bit : ℕ → ℕ) (bytes : Bytes l) (full : length l ≡ 512)
    (same : (n : ℕ) → n < 2048 → bit_of l n ≡ bit n) where
  byte-read : (i : ℕ) → i < 256 → get_or l i 0 ≡ map_byte bit i
  unfolding map_byte
  byte-read i h =
      let v : ℕ = get_or l i 0 in
      sym (from_bits-digit v 0 8 (bytes i) ∙ omega arith)
      ∙ ap from_bits
      (map-run (digit v) bit 0 (8 * i) 8 (λ k lt.
      let q : (8 * i + k) / 8 ≡ i = omega arith in
      let r : (8 * i + k) % 8 ≡ 0 + k = omega arith in
      sym (ap₂ (λ (a b : ℕ). get_or l a 0 / 2 ^ b % 2) q r) ∙ same (8 * i + k) (omega arith)))

  pub map_front-bit_of : all_zero (part 256 492 l) ≡ true → take 492 l ≡ map_front bit
  unfolding part
  map_front-bit_of z =
      sym (part-part 0 256 492 l (omega arith) (omega arith))
      ∙ ap₂ (λ (x y : List ℕ). x ++ y)
      (ext_get_or 0 (take 256 l) (map (map_byte bit) (up_from 0 256)) (len ∙ sym (length-bytes bit))
      (λ i h.
      let lt : i < 256 = omega (arith, len) in
      get_or-take 256 l i 0 lt ∙ byte-read i lt ∙ sym (byte_at bit i lt)))
      (all_zero-replicate (part 256 492 l) z ∙ ap (λ (n : ℕ). replicate n 0) (length_part 256 492 l (omega arith)))
      ∙ sym (map_front-parts bit)
    where
      len : length (take 256 l) ≡ 256
      len = length-take-le 256 l (omega arith)
