-- A trailer's fields are what was written, and the trailer of the fields read is the bytes.
use Rattle.std.specs.Prelude.{◌≡◌, List, ◌++◌, ℕ, ◌+◌, ◌^◌, ◌≤◌, ◌<◌, length}
use Rattle.std.proofs.Math.Path.{refl}
use Rattle.std.proofs.Common.{sym, ap, ap₂, ◌∙◌, add_assoc, zero-add, arith, get_or-append-add}
use Rattle.std.proofs.Math.ListN.{get_or-append}
use Rattle.std.proofs.lemmas.List.Edits.{sets}
use Rattle.lists.specs.Bytes.{Bytes, part}
use Rattle.lists.specs.BytesLaws.{get_or-sets-in, part-part, Bytes-append}
use Rattle.endian.specs.Endian.{le16, le32, u16_at, u32_at}
use Rattle.endian.proofs.EndianLaws.{
  Agree,
  u16_at-cong,
  u32_at-cong,
  u16_at-le16,
  u32_at-le32,
  le16-read,
  le32-read,
  Bytes-le16,
  Bytes-le32,
}
use Rattle.store.specs.Store.{prev_at, next_at, bucket_at, flags_at, id_at, trailer}

module _ (prev next bucket flags : ℕ) where
  pub length-trailer : length (trailer prev next bucket flags) ≡ 16
  unfolding trailer le16 le32
  length-trailer = refl

  pub Bytes-trailer : Bytes (trailer prev next bucket flags)
  unfolding trailer
  Bytes-trailer =
      Bytes-append (le32 prev) _ (Bytes-le32 prev)
      (Bytes-append (le32 next) _ (Bytes-le32 next)
      (Bytes-append (le32 bucket) _ (Bytes-le32 bucket)
      (Bytes-append (le16 flags) (le16 0xFF80) (Bytes-le16 flags) (Bytes-le16 0xFF80))))

  -- the fields written one after the other
  pub sets-trailer : (l : List ℕ)
      → sets (sets (sets (sets (sets l 492 (le32 prev)) 496 (le32 next)) 500 (le32 bucket)) 504 (le16 flags))
      506 (le16 0xFF80)
      ≡ sets l 492 (trailer prev next bucket flags)
  unfolding trailer le32 le16
  sets-trailer l = refl

  -- a block that has the trailer in its place
  module _ (l : List ℕ) (on : Agree 16 l 492 (trailer prev next bucket flags) 0) where
    later : (w i : ℕ) → i + w ≤ 16 → Agree w l (492 + i) (trailer prev next bucket flags) i
    later w i h k lt = rw add_assoc (simp zero-add at (on (i + k) (omega arith)))

    word : (i : ℕ) → i + 4 ≤ 16 → u32_at l (492 + i) ≡ u32_at (trailer prev next bucket flags) i
    word i h = u32_at-cong l (trailer prev next bucket flags) (492 + i) i (later 4 i h)

    half : (i : ℕ) → i + 2 ≤ 16 → u16_at l (492 + i) ≡ u16_at (trailer prev next bucket flags) i
    half i h = u16_at-cong l (trailer prev next bucket flags) (492 + i) i (later 2 i h)

    pub prev_at-trailer : prev < 2 ^ 32 → prev_at l ≡ prev
    unfolding trailer u32_at le16 le32
    prev_at-trailer h = word 0 (omega arith) ∙ u32_at-le32 prev h

    pub next_at-trailer : next < 2 ^ 32 → next_at l ≡ next
    unfolding trailer u32_at le16 le32
    next_at-trailer h = word 4 (omega arith) ∙ u32_at-le32 next h

    pub bucket_at-trailer : bucket < 2 ^ 32 → bucket_at l ≡ bucket
    unfolding trailer u32_at le16 le32
    bucket_at-trailer h = word 8 (omega arith) ∙ u32_at-le32 bucket h

    pub flags_at-trailer : flags < 2 ^ 16 → flags_at l ≡ flags
    unfolding trailer u16_at le16 le32
    flags_at-trailer h = half 12 (omega arith) ∙ u16_at-le16 flags h

    pub id_at-trailer : id_at l ≡ 0xFF80
    unfolding trailer u16_at le16 le32
    id_at-trailer = half 14 (omega arith)

  pub agree-sets : (l : List ℕ) → 508 ≤ length l
      → Agree 16 (sets l 492 (trailer prev next bucket flags)) 492 (trailer prev next bucket flags) 0
  agree-sets l h k lt =
      let n = length-trailer in
      rw zero-add (get_or-sets-in (trailer prev next bucket flags) l 492 k (omega arith) (omega arith))

  pub agree-append : (a b : List ℕ) → length a ≡ 492
      → Agree 16 (a ++ (trailer prev next bucket flags ++ b)) 492 (trailer prev next bucket flags) 0
  agree-append a b h k lt =
      let t : List ℕ = trailer prev next bucket flags in
      let n = length-trailer in
      rw (zero-add, ← h) (get_or-append-add a (t ++ b) k 0 ∙ get_or-append t b 0 k (omega arith))

-- the fields that were read are written again
pub trailer-read : (l : List ℕ) → Bytes l → 508 ≤ length l → id_at l ≡ 0xFF80
    → trailer (prev_at l) (next_at l) (bucket_at l) (flags_at l) ≡ part 492 508 l
unfolding trailer part
trailer-read l bytes h id =
    ap₂ (λ (x y : List ℕ). x ++ y) (le32-read l bytes 492 (omega arith))
    (ap₂ (λ (x y : List ℕ). x ++ y) (le32-read l bytes 496 (omega arith))
    (ap₂ (λ (x y : List ℕ). x ++ y) (le32-read l bytes 500 (omega arith))
    (ap₂ (λ (x y : List ℕ). x ++ y) (le16-read l bytes 504 (omega arith))
    (ap le16 (sym id) ∙ le16-read l bytes 506 (omega arith))
    ∙ part-part 504 506 508 l (omega arith) (omega arith))
    ∙ part-part 500 504 508 l (omega arith) (omega arith))
    ∙ part-part 496 500 508 l (omega arith) (omega arith))
    ∙ part-part 492 496 508 l (omega arith) (omega arith)
