-- A block whose body is a front part and a trailer: what is read of it, and that a body is made of what is read of it.
-- The same of unused blocks.
use Rattle.std.specs.Prelude.{◌≡◌, true, length, get_or}
use Rattle.std.proofs.Math.Path.{sym, ap}
use Rattle.std.proofs.Common.{◌∙◌, arith, take-append-drop, length-take-le}
use mathlib.Core.List.{List, ◌++◌, append_assoc}
use Prim.Native.Nat.{ℕ, ◌+◌, ◌*◌, ◌^◌, ◌≤◌, ◌<◌}
use Rattle.std.proofs.Math.ListN.{take, drop, replicate, length-append}
use Rattle.std.proofs.lemmas.List.{length-replicate}
use Rattle.lists.specs.Bytes.{Bytes, part, all_zero}
use Rattle.lists.specs.BytesLaws.{Bytes-append, part-part, all_zero-replicate, replicate-all_zero, Bytes-replicate}
use Rattle.lists.specs.Block.{block}
use Rattle.lists.specs.BlockLaws.{length-block, Bytes-block}
use Rattle.endian.specs.Endian.{u16_at}
use Rattle.endian.proofs.EndianLaws.{Agree}
use Rattle.store.specs.Store.{prev_at, next_at, bucket_at, flags_at, id_at, trailer, covered}
use Rattle.store.specs.TrailerLaws.{
  length-trailer,
  Bytes-trailer,
  agree-append,
  prev_at-trailer,
  next_at-trailer,
  bucket_at-trailer,
  flags_at-trailer,
  id_at-trailer,
  trailer-read,
}
use Rattle.store.proofs.CheckLaws.{u16_at-covered}
use Rattle.image.specs.Layout.{paged, blank}
use Rattle.image.specs.Rules.{unused}

-- ---- what was written is read

module _ (front : List ℕ) (whole : length front ≡ 492) (prev next bucket flags : ℕ) where
  pub length-paged : length (paged front prev next bucket flags) ≡ 508
  unfolding paged
  length-paged =
      length-append front (trailer prev next bucket flags) ∙ omega (arith, length-trailer prev next bucket flags)

  pub Bytes-paged : Bytes front → Bytes (paged front prev next bucket flags)
  unfolding paged
  Bytes-paged b = Bytes-append front _ b (Bytes-trailer prev next bucket flags)

module _ (front : List ℕ) (whole : length front ≡ 492) (prev next bucket flags : ℕ) (l : List ℕ)
    (q : covered l ≡ paged front prev next bucket flags) where
  pub paged-parts : l ≡ front ++ (trailer prev next bucket flags ++ drop 508 l)
  unfolding paged covered
  paged-parts =
      sym (take-append-drop 508 l)
      ∙ ap (λ (b : List ℕ). b ++ drop 508 l) q
      ∙ append_assoc front (trailer prev next bucket flags) (drop 508 l)

  agrees : Agree 16 l 492 (trailer prev next bucket flags) 0
  agrees k lt =
      ap (λ (m : List ℕ). get_or m (492 + k) 0) paged-parts ∙ agree-append prev next bucket flags front _ whole k lt

  pub prev-paged : prev < 2 ^ 32 → prev_at l ≡ prev
  prev-paged = prev_at-trailer prev next bucket flags l agrees

  pub next-paged : next < 2 ^ 32 → next_at l ≡ next
  next-paged = next_at-trailer prev next bucket flags l agrees

  pub bucket-paged : bucket < 2 ^ 32 → bucket_at l ≡ bucket
  bucket-paged = bucket_at-trailer prev next bucket flags l agrees

  pub flags-paged : flags < 2 ^ 16 → flags_at l ≡ flags
  flags-paged = flags_at-trailer prev next bucket flags l agrees

  pub id-paged : id_at l ≡ 0xFF80
  id-paged = id_at-trailer prev next bucket flags l agrees

-- ---- an unused block

pub length-blank : length blank ≡ 508
unfolding blank
length-blank = length-replicate {A = ℕ} 508 0

pub unused-blank : (l : List ℕ) → covered l ≡ blank → unused l ≡ true
unfolding part blank covered
unused-blank l q = ap all_zero q ∙ replicate-all_zero 508

pub flags-blank : (l : List ℕ) → covered l ≡ blank → flags_at l ≡ 0
unfolding blank u16_at
flags-blank l q = sym (u16_at-covered l 504 (omega arith)) ∙ ap (λ (b : List ℕ). u16_at b 504) q

pub Bytes-blank : Bytes blank
unfolding blank
Bytes-blank = Bytes-replicate 508

-- ---- a body is made of what is read of it

module _ (s : List ℕ) (k : ℕ) (bytes : Bytes s) (inside : 512 * k + 512 ≤ length s) where
  abbrev l : List ℕ
  l = block s k

  full : length l ≡ 512
  full = length-block s k inside

  pub paged-read : id_at (block s k) ≡ 0xFF80
      → let l = block s k in covered l ≡ paged (take 492 l) (prev_at l) (next_at l) (bucket_at l) (flags_at l)
  unfolding paged covered part
  paged-read id =
      let t : List ℕ = trailer (prev_at l) (next_at l) (bucket_at l) (flags_at l) in
      let r : t ≡ part 492 508 l = trailer-read l (Bytes-block s k bytes) (omega (arith, full)) id in
      sym (ap (λ (x : List ℕ). take 492 l ++ x) r ∙ part-part 0 492 508 l (omega arith) (omega arith))

  pub blank-read : unused (block s k) ≡ true → covered (block s k) ≡ blank
  unfolding blank covered part
  blank-read h =
      all_zero-replicate (take 508 l) h ∙ ap (λ (n : ℕ). replicate n 0) (length-take-le 508 l (omega (arith, full)))
