-- The meta block's bytes 0..491: its fields are read as they were written, and bytes that pass rule 1 are those of
-- the fields read.
use Rattle.std.specs.Prelude.{◌≡◌, eqb, drop}
use Rattle.std.proofs.Math.Path.{refl, sym, ap, ap₂}
use Rattle.std.proofs.Common.{◌∙◌}
use Rattle.std.proofs.Math.Bool.{true}
use mathlib.Core.List.{List, [], ◌∷◌, ◌++◌, append_assoc}
use Prim.Native.Nat.{ℕ, zero, suc, ◌+◌, ◌-◌, ◌*◌, ◌^◌, ◌≤◌, ◌<◌}
use native.Mathlib.Omega.{arith}
use Rattle.std.proofs.Math.ListN.{length, take, replicate, length-append, length-replicate}
use borrow.Author.Tests.{eqb-true, eq-eqb}
use Rattle.lists.specs.Lists.{bind, Each}
use Rattle.lists.specs.ListsLaws.{and_left, and_right, and_both}
use Rattle.lists.specs.Bytes.{Bytes, part, all_zero}
use Rattle.lists.specs.BytesLaws.{Bytes-append, part_at, part-part, length_part, all_zero-replicate, replicate-all_zero}
use Rattle.lists.specs.BytesLaws.{Bytes-replicate}
use Rattle.endian.specs.Endian.{le16, le32, u16_at, u32_at}
use Rattle.endian.proofs.EndianLaws.{
  length-le32,
  u32_at-le32,
  u16_at-le16,
  u32_at-shift,
  le16-read,
  le32-read,
  Bytes-le16,
  Bytes-le32,
}
use Rattle.image.specs.declared.Meta.{Meta}
use Rattle.image.specs.Layout.{meta_front}
use Rattle.image.specs.Decode.{words_at, read_meta}
use Rattle.image.specs.Rules.{front_ok}

-- ---- runs of words

abbrev pub Words : List ℕ → Type 0
Words ws = Each (λ (w : ℕ). w < 2 ^ 32) ws

pub length-words_at : (l : List ℕ) (i n : ℕ) → length (words_at l i n) ≡ n
unfolding words_at
length-words_at l i zero = refl
length-words_at l i (suc n) = ap suc (length-words_at l (i + 4) n)

length-words : (ws : List ℕ) → length (bind ws le32) ≡ 4 * length ws
length-words [] = refl
length-words (w ∷ ws) = length-append (le32 w) (bind ws le32) ∙ omega (arith, length-le32 w, length-words ws)

Bytes-words : (ws : List ℕ) → Bytes (bind ws le32)
Bytes-words [] = λ i. omega arith
Bytes-words (w ∷ ws) = Bytes-append (le32 w) (bind ws le32) (Bytes-le32 w) (Bytes-words ws)

words_at-words : (ws p q : List ℕ) (i : ℕ) → Words ws → length p ≡ i
    → words_at (p ++ (bind ws le32 ++ q)) i (length ws) ≡ ws
unfolding words_at u32_at le32
words_at-words [] p q i f h = refl
words_at-words (w ∷ ws) p q i f h =
    let z : i ≡ length p + 0 = omega arith in
    let rest : List ℕ = bind ws le32 in
    let one : p ++ (le32 w ++ rest ++ q) ≡ p ++ le32 w ++ (rest ++ q) = simp append_assoc in
    ap₂ (λ (x : ℕ) (xs : List ℕ). x ∷ xs)
    (ap (u32_at (p ++ (le32 w ++ rest ++ q))) z ∙ u32_at-shift p (le32 w ++ rest ++ q) 0 ∙ u32_at-le32 w f.0)
    (ap (λ (l : List ℕ). words_at l (i + 4) (length ws)) one
    ∙ words_at-words ws (p ++ le32 w) q (i + 4) f.1 (length-append p (le32 w) ∙ omega arith))

-- ---- what was written is read

-- the fields are in their widths
pub record MetaFits (m : Meta) : Type 0 where
  pub count : m.count < 2 ^ 32
  pub fill : m.fill < 2 ^ 16
  pub max : m.max < 2 ^ 32
  pub high : m.high < 2 ^ 32
  pub low : m.low < 2 ^ 32
  pub point : m.point < 2 ^ 32
  pub free : m.free < 2 ^ 32
  pub size : m.size < 2 ^ 32
  pub sixteen : length m.spares ≡ 16
  pub words : Words m.spares
  pub number : m.number < 2 ^ 32

module _ (m : Meta) where
  -- the fields before the spares
  head : List ℕ
  head =
      le32 0x06440640
      ++ (le32 512 ++ (le32 m.count ++ (le16 m.fill ++ (le16 0 ++ (le32 m.max ++ (le32 m.high
      ++ (le32 m.low ++ (le32 m.point ++ (le32 m.free ++ le32 m.size)))))))))

  head-front : (q : List ℕ)
      → meta_front m ++ q ≡ head ++ (bind m.spares le32 ++ (le32 m.number ++ (replicate 384 0 ++ q)))
  unfolding meta_front head le32 le16
  head-front q =
      ap (λ (l : List ℕ). head ++ l) (append_assoc (bind m.spares le32) (le32 m.number ++ replicate 384 0) q)

  pub length-meta_front : length m.spares ≡ 16 → length (meta_front m) ≡ 492
  unfolding meta_front le32 le16
  length-meta_front h =
      let a = length-append (bind m.spares le32) (le32 m.number ++ replicate 384 0) in
      omega (arith, a, length-words m.spares, length-replicate {A = ℕ} 384 0)

  pub Bytes-meta_front : Bytes (meta_front m)
  unfolding meta_front
  Bytes-meta_front =
      word 0x06440640 _ (word 512 _ (word m.count _ (half m.fill _ (half 0 _ (word m.max _ (word m.high _
      (word m.low _ (word m.point _ (word m.free _ (word m.size _
      (Bytes-append (bind m.spares le32) (le32 m.number ++ replicate 384 0) (Bytes-words m.spares)
      (word m.number _ (Bytes-replicate 384)))))))))))))
    where
      word : (v : ℕ) (l : List ℕ) → Bytes l → Bytes (le32 v ++ l)
      word v l b = Bytes-append (le32 v) l (Bytes-le32 v) b

      half : (v : ℕ) (l : List ℕ) → Bytes l → Bytes (le16 v ++ l)
      half v l b = Bytes-append (le16 v) l (Bytes-le16 v) b

  pub number-meta_front : (q : List ℕ) → length m.spares ≡ 16 → m.number < 2 ^ 32
      → u32_at (meta_front m ++ q) 104 ≡ m.number
  unfolding head u32_at le32 le16
  number-meta_front q sixteen f =
      let ws : List ℕ = bind m.spares le32 in
      let rest : List ℕ = le32 m.number ++ (replicate 384 0 ++ q) in
      let at : 104 ≡ length (head ++ ws) + 0 =
      omega (arith, length-append head ws, length-words m.spares, sixteen) in
      ap (λ (l : List ℕ). u32_at l 104) (head-front q ∙ sym (append_assoc head ws rest))
      ∙ ap (u32_at (head ++ ws ++ rest)) at
      ∙ u32_at-shift (head ++ ws) rest 0
      ∙ u32_at-le32 m.number f

  pub read_meta-meta_front : (q : List ℕ) → MetaFits m → read_meta (meta_front m ++ q) ≡ m
  unfolding read_meta meta_front head u32_at u16_at le32 le16
  read_meta-meta_front q f =
      let ws : words_at (meta_front m ++ q) 40 16 ≡ m.spares =
      ap₂ (λ (l : List ℕ) (n : ℕ). words_at l 40 n) (head-front q) (sym f.sixteen)
      ∙ words_at-words m.spares head (le32 m.number ++ (replicate 384 0 ++ q)) 40 f.words refl in
      λ i. record {
        count = u32_at-le32 m.count f.count i;
        fill = u16_at-le16 m.fill f.fill i;
        max = u32_at-le32 m.max f.max i;
        high = u32_at-le32 m.high f.high i;
        low = u32_at-le32 m.low f.low i;
        point = u32_at-le32 m.point f.point i;
        free = u32_at-le32 m.free f.free i;
        size = u32_at-le32 m.size f.size i;
        spares = ws i;
        number = number-meta_front q f.sixteen f.number i;
      }

  pub front_ok-meta_front : (q : List ℕ) → MetaFits m → front_ok m.size (meta_front m ++ q) ≡ true
  unfolding front_ok meta_front head u32_at le32 le16 part all_zero
  front_ok-meta_front q f =
      let ws : List ℕ = bind m.spares le32 in
      let number : List ℕ = le32 m.number in
      let zeros : part 108 492 (meta_front m ++ q) ≡ replicate 384 0 =
      ap (part 108 492)
      (head-front q ∙ ap (λ (l : List ℕ). head ++ l) (sym (append_assoc ws number (replicate 384 0 ++ q))))
      ∙ part_at (ws ++ number) (replicate 384 0) q 68 452
      (length-append ws number ∙ omega (arith, length-words m.spares, f.sixteen))
      (omega (arith, length-replicate {A = ℕ} 384 0)) in
      and_both _ _ (eq-eqb (u32_at (meta_front m ++ q) 0) 0x06440640 refl)
      (and_both _ _ (eq-eqb (u32_at (meta_front m ++ q) 4) 512 refl)
      (and_both _ _ (eq-eqb (u32_at (meta_front m ++ q) 36) m.size (u32_at-le32 m.size f.size))
      (and_both _ _ refl (ap all_zero zeros ∙ replicate-all_zero 384))))

-- ---- what was read is written

module _ (l : List ℕ) (bytes : Bytes l) (full : length l ≡ 512) where
  -- two parts that meet
  join : (a m e : ℕ) {x y : List ℕ} → a ≤ m → m ≤ e → x ≡ part a m l → y ≡ part m e l → x ++ y ≡ part a e l
  join a m e h k p q = ap₂ (λ (u v : List ℕ). u ++ v) p q ∙ part-part a m e l h k

  words-words_at : (n i : ℕ) → i + 4 * n ≤ 512 → bind (words_at l i n) le32 ≡ part i (i + 4 * n) l
  unfolding words_at part
  words-words_at zero i h = let z : i + 4 * 0 - i ≡ 0 = omega arith in ap (λ (k : ℕ). take k (drop i l)) (sym z)
  words-words_at (suc n) i h =
      let z : i + 4 - i ≡ 4 = omega arith in
      let e : i + 4 + 4 * n ≡ i + 4 * suc n = omega arith in
      join i (i + 4) (i + 4 * suc n) (omega arith) (omega arith)
      (le32-read l bytes i (omega arith) ∙ ap (λ (k : ℕ). take k (drop i l)) (sym z))
      (words-words_at n (i + 4) (omega arith) ∙ ap (λ (k : ℕ). part (i + 4) k l) e)

  -- the tests of rule 1, one by one
  record Front (n : ℕ) : Type 0 where
    magic : u32_at l 0 ≡ 0x06440640
    edition : u32_at l 4 ≡ 512
    size : u32_at l 36 ≡ n
    gap : part 14 16 l ≡ le16 0
    rest : part 108 492 l ≡ replicate 384 0

  front-is : (n : ℕ) → front_ok n l ≡ true → Front n
  unfolding front_ok le16
  front-is n h =
      let h₁ = and_right (eqb (u32_at l 0) 0x06440640) _ h in
      let h₂ = and_right (eqb (u32_at l 4) 512) _ h₁ in
      let h₃ = and_right (eqb (u32_at l 36) n) _ h₂ in
      record {
        magic = eqb-true _ _ (and_left (eqb (u32_at l 0) 0x06440640) _ h);
        edition = eqb-true _ _ (and_left (eqb (u32_at l 4) 512) _ h₁);
        size = eqb-true _ _ (and_left (eqb (u32_at l 36) n) _ h₂);
        gap = zeros 14 16 (omega arith) (and_left (all_zero (part 14 16 l)) _ h₃);
        rest = zeros 108 492 (omega arith) (and_right (all_zero (part 14 16 l)) _ h₃);
      }
    where
      zeros : (a e : ℕ) → e ≤ 512 → all_zero (part a e l) ≡ true → part a e l ≡ replicate (e - a) 0
      zeros a e k z =
          all_zero-replicate (part a e l) z ∙ ap (λ (n : ℕ). replicate n 0) (length_part a e l (omega arith))

  pub size-front_ok : (n : ℕ) → front_ok n l ≡ true → u32_at l 36 ≡ n
  size-front_ok n h = (front-is n h).size

  pub meta_front-read_meta : (n : ℕ) → front_ok n l ≡ true → take 492 l ≡ meta_front (read_meta l)
  unfolding meta_front read_meta part
  meta_front-read_meta n h =
      let f = front-is n h in
      let word : (i : ℕ) → i + 4 ≤ 512 → le32 (u32_at l i) ≡ take 4 (drop i l) =
      λ i k. le32-read l bytes i (omega arith) in
      let t₁₀₄ = join 104 108 492 (omega arith) (omega arith) (word 104 (omega arith)) (sym f.rest) in
      let t₄₀ = join 40 104 492 (omega arith) (omega arith) (words-words_at 16 40 (omega arith)) t₁₀₄ in
      let t₃₆ = join 36 40 492 (omega arith) (omega arith) (word 36 (omega arith)) t₄₀ in
      let t₃₂ = join 32 36 492 (omega arith) (omega arith) (word 32 (omega arith)) t₃₆ in
      let t₂₈ = join 28 32 492 (omega arith) (omega arith) (word 28 (omega arith)) t₃₂ in
      let t₂₄ = join 24 28 492 (omega arith) (omega arith) (word 24 (omega arith)) t₂₈ in
      let t₂₀ = join 20 24 492 (omega arith) (omega arith) (word 20 (omega arith)) t₂₄ in
      let t₁₆ = join 16 20 492 (omega arith) (omega arith) (word 16 (omega arith)) t₂₀ in
      let t₁₄ = join 14 16 492 (omega arith) (omega arith) (sym f.gap) t₁₆ in
      let t₁₂ = join 12 14 492 (omega arith) (omega arith) (le16-read l bytes 12 (omega arith)) t₁₄ in
      let t₈ = join 8 12 492 (omega arith) (omega arith) (word 8 (omega arith)) t₁₂ in
      let t₄ = join 4 8 492 (omega arith) (omega arith) (ap le32 (sym f.edition) ∙ word 4 (omega arith)) t₈ in
      sym (join 0 4 492 (omega arith) (omega arith) (ap le32 (sym f.magic) ∙ word 0 (omega arith)) t₄)
