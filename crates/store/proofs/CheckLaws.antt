-- A block's check: sealed blocks are checked, and checked blocks are sealed.
use Rattle.std.specs.Prelude.{◌≡◌, true, eqb}
use Rattle.std.proofs.Math.Path.{sym, ap, ap₂}
use Rattle.std.proofs.Common.{◌∙◌, arith, take-append-drop, drop_of_length-le, length-take-le, take-take}
use mathlib.Core.List.{List, ◌++◌, append-nil}
use Prim.Native.Nat.{ℕ, ◌+◌, ◌*◌, ◌^◌, ◌≤◌, ◌<◌}
use Rattle.std.proofs.Math.ListN.{length, take, drop, length-append, length-drop}
use Rattle.std.proofs.lemmas.List.Edits.{sets}
use Rattle.std.proofs.Math.Seq.{sets-eq, take_at, take_all}
use Rattle.lists.specs.ListsLaws.{eqb_yes, eqb-eq}
use Rattle.lists.specs.Bytes.{Bytes}
use Rattle.lists.specs.BytesLaws.{Bytes-append, Bytes-take}
use Rattle.lists.specs.Block.{block}
use Rattle.lists.specs.BlockLaws.{length-block, Bytes-block}
use Rattle.endian.specs.Endian.{le32, u16_at, u32_at}
use Rattle.endian.proofs.EndianLaws.{
  length-le32,
  u16_at-take,
  u32_at-shift,
  u32_at-le32,
  le32-read,
  Bytes-le32,
}
use Rattle.crc32c.specs.Crc.{crc_of}
use Rattle.crc32c.specs.CrcLaws.{crc_of-lt}
use Rattle.store.specs.Store.{covered, check_of, sealed, checks, number_at, checked}

pub length-covered : (l : List ℕ) → 508 ≤ length l → length (covered l) ≡ 508
unfolding covered
length-covered l h = length-take-le 508 l h

pub covered_whole : (l : List ℕ) → length l ≡ 508 → covered l ≡ l
unfolding covered
covered_whole l h = take_all 508 l (omega arith)

covered-covered : (l : List ℕ) → covered (covered l) ≡ covered l
unfolding covered
covered-covered l = take-take 508 508 l (omega arith)

-- the numbers before the check
pub u16_at-covered : (l : List ℕ) (i : ℕ) → i + 2 ≤ 508 → u16_at (covered l) i ≡ u16_at l i
unfolding covered
u16_at-covered l i b = u16_at-take 508 l i b

-- ---- as block k of the store with this number

module _ (number k : ℕ) where
  pub check_of-lt : (l : List ℕ) → check_of number k l < 2 ^ 32
  unfolding check_of
  check_of-lt l = crc_of-lt _

  -- a check depends on the block's first 508 bytes alone
  check_of-cong : (l m : List ℕ) → covered l ≡ covered m → check_of number k l ≡ check_of number k m
  unfolding check_of
  check_of-cong l m e = ap (λ (b : List ℕ). crc_of (le32 number ++ (le32 k ++ b))) e

  -- ---- sealed

  module _ (l : List ℕ) (h : 508 ≤ length l) where
    pub length-sealed : length (sealed number k l) ≡ 512
    unfolding sealed
    length-sealed =
        length-append (covered l) (le32 (check_of number k l))
        ∙ omega (arith, length-covered l h, length-le32 (check_of number k l))

    pub covered-sealed : covered (sealed number k l) ≡ covered l
    unfolding sealed covered
    covered-sealed = take_at (take 508 l) (le32 (check_of number k l)) 508 (length-take-le 508 l h)

    -- the check stands where it is looked for
    check-sealed : u32_at (sealed number k l) 508 ≡ check_of number k l
    unfolding sealed
    check-sealed =
        let e : length (covered l) + 0 ≡ 508 = omega (arith, length-covered l h) in
        ap (u32_at (sealed number k l)) (sym e)
        ∙ u32_at-shift (covered l) (le32 (check_of number k l)) 0
        ∙ u32_at-le32 (check_of number k l) (check_of-lt l)

    pub checks-sealed : checks number k (sealed number k l) ≡ true
    unfolding checks
    checks-sealed =
        eqb_yes (u32_at (sealed number k l) 508) (check_of number k (sealed number k l))
        (check-sealed ∙ check_of-cong l (sealed number k l) (sym covered-sealed))

  -- a sealed block depends on its first 508 bytes alone
  pub sealed-cong : (l m : List ℕ) → covered l ≡ covered m → sealed number k l ≡ sealed number k m
  unfolding sealed
  sealed-cong l m e = ap₂ (λ (c : List ℕ) (v : ℕ). c ++ le32 v) e (check_of-cong l m e)

  -- a body, and any block of it, sealed
  pub sealed-body : (l b : List ℕ) → covered l ≡ b → sealed number k l ≡ sealed number k b
  sealed-body l b e = sealed-cong l b (sym (covered-covered l) ∙ ap covered e)

  pub Bytes-sealed : (l : List ℕ) → Bytes l → Bytes (sealed number k l)
  unfolding sealed covered
  Bytes-sealed l b = Bytes-append (take 508 l) _ (Bytes-take 508 l b) (Bytes-le32 (check_of number k l))

  -- the check written over a block's last four bytes
  pub sets-check : (l : List ℕ) → length l ≡ 512
      → sets l 508 (le32 (check_of number k l)) ≡ sealed number k l
  unfolding sealed covered
  sets-check l h =
      let c : List ℕ = le32 (check_of number k l) in
      let n : length c ≡ 4 = length-le32 (check_of number k l) in
      sets-eq c l 508 (omega arith)
      ∙ ap (λ (x : List ℕ). take 508 l ++ c ++ x) (drop_of_length-le l {i = 508 + length c} (omega arith))
      ∙ append-nil (take 508 l ++ c)

  -- ---- checked

  pub checks-is : (b : List ℕ) → Bytes b → length b ≡ 512 → checks number k b ≡ true
      → b ≡ sealed number k b
  unfolding checks sealed covered
  checks-is b bytes n t =
      let e : u32_at b 508 ≡ check_of number k b = eqb-eq (u32_at b 508) (check_of number k b) t in
      let r : le32 (u32_at b 508) ≡ take 4 (drop 508 b) = le32-read b bytes 508 (omega arith) in
      let d : take 4 (drop 508 b) ≡ drop 508 b = take_all 4 (drop 508 b) (omega (arith, length-drop 508 b)) in
      sym (take-append-drop 508 b)
      ∙ ap (λ (x : List ℕ). take 508 b ++ x) (sym (ap le32 (sym e) ∙ r ∙ d))

-- a block whose check is right passes as another block, or in another store, exactly if both checks are one
pub checks-elsewhere : (number k other j : ℕ) (b : List ℕ) → checks number k b ≡ true
    → checks other j b ≡ eqb (check_of number k b) (check_of other j b)
unfolding checks
checks-elsewhere number k other j b t =
    ap (λ (v : ℕ). eqb v (check_of other j b)) (eqb-eq (u32_at b 508) (check_of number k b) t)

-- a block whose check is right is sealed
pub block-checked : (s : List ℕ) (k : ℕ) → Bytes s → 512 * k + 512 ≤ length s → checked s k ≡ true
    → block s k ≡ sealed (number_at s) k (block s k)
unfolding checked
block-checked s k bytes h t =
    checks-is (number_at s) k (block s k) (Bytes-block s k bytes) (length-block s k h) t
