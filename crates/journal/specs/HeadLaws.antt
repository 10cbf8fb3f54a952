-- The head as it is written is the head as it is read.
use Rattle.std.specs.Prelude.{◌≡◌, take, replicate}
use Rattle.std.proofs.Math.Path.{refl, ap}
use Rattle.std.proofs.Common.{sym, ◌∙◌}
use mathlib.Core.List.{List, [], ◌∷◌, ◌++◌, append_assoc}
use Prim.Native.Nat.{ℕ, zero, suc, ◌+◌, ◌*◌, ◌≤◌, ◌<◌}
use native.Mathlib.Omega.{arith}
use Rattle.std.proofs.Math.ListN.{length, get_or, length-append, length-replicate}
use Rattle.std.proofs.Math.Seq.{length-take-le, get_or-take}
use Rattle.lists.specs.Lists.{bind}
use Rattle.endian.specs.Endian.{le32, u32_at}
use Rattle.endian.proofs.EndianLaws.{length-le32, u32_at-front, u32_at-shift, u32_at-take, u32_at-le32}
use Rattle.store.specs.Store.{covered, sealed}
use Rattle.store.proofs.CheckLaws.{length-sealed, covered-sealed}
use Rattle.journal.specs.Journal.{head_bytes, head, ending, wiped, head_of, number_in, count_in, name_in}

-- numbers written one after the other
u32_at-names : (ns z : List ℕ) (j : ℕ) → j < length ns → get_or ns j 0 < 4294967296
    → u32_at (bind ns le32 ++ z) (4 * j) ≡ get_or ns j 0
u32_at-names [] z j h b = absurd (omega arith)
u32_at-names (x ∷ xs) z zero h b =
    ap (λ (l : List ℕ). u32_at l 0) (append_assoc (le32 x) (bind xs le32) z)
    ∙ u32_at-front (le32 x) (bind xs le32 ++ z) 0 (omega (arith, length-le32 x))
    ∙ u32_at-le32 x b
u32_at-names (x ∷ xs) z (suc j) h b =
    let e : 4 * suc j ≡ length (le32 x) + 4 * j = omega (arith, length-le32 x) in
    ap (λ (l : List ℕ). u32_at l (4 * suc j)) (append_assoc (le32 x) (bind xs le32) z)
    ∙ ap (u32_at (le32 x ++ (bind xs le32 ++ z))) e
    ∙ u32_at-shift (le32 x) (bind xs le32 ++ z) (4 * j)
    ∙ u32_at-names xs z j (omega arith) b

module _ (number : ℕ) (numbers : List ℕ) (n : ℕ) where
  rest : List ℕ
  rest = bind (take n numbers) le32 ++ replicate 508 0

  all : List ℕ
  all = le32 number ++ (le32 n ++ rest)

  long : 508 ≤ length all
  unfolding all rest
  long =
      omega (
        arith,
        length-append (le32 number) (le32 n ++ rest),
        length-append (le32 n) rest,
        length-append (bind (take n numbers) le32) (replicate 508 0),
        length-replicate 508 zero,
      )

  pub length-head_bytes : length (head_bytes number numbers n) ≡ 508
  unfolding head_bytes all rest
  length-head_bytes = length-take-le 508 all long

  pub number-head_bytes : number < 4294967296 → u32_at (head_bytes number numbers n) 0 ≡ number
  unfolding head_bytes all rest
  number-head_bytes h =
      u32_at-take 508 all 0 (omega arith)
      ∙ u32_at-front (le32 number) (le32 n ++ rest) 0 (omega (arith, length-le32 number)) ∙ u32_at-le32 number h

  pub count-head_bytes : n < 4294967296 → u32_at (head_bytes number numbers n) 4 ≡ n
  unfolding head_bytes all rest
  count-head_bytes h =
      let e : 4 ≡ length (le32 number) + 0 = omega (arith, length-le32 number) in
      u32_at-take 508 all 4 (omega arith)
      ∙ ap (u32_at all) e
      ∙ u32_at-shift (le32 number) (le32 n ++ rest) 0
      ∙ u32_at-front (le32 n) rest 0 (omega (arith, length-le32 n))
      ∙ u32_at-le32 n h

  pub name-head_bytes : n ≤ 14 → n ≤ length numbers → (j : ℕ) → j < n → get_or numbers j 0 < 4294967296
      → u32_at (head_bytes number numbers n) (8 + 4 * j) ≡ get_or numbers j 0
  unfolding head_bytes all rest
  name-head_bytes few h j lt b =
      let e : 8 + 4 * j ≡ length (le32 number) + (length (le32 n) + 4 * j) =
      omega (arith, length-le32 number, length-le32 n) in
      let g : get_or (take n numbers) j 0 ≡ get_or numbers j 0 = get_or-take n numbers j 0 lt in
      u32_at-take 508 all (8 + 4 * j) (omega arith)
      ∙ ap (u32_at all) e
      ∙ u32_at-shift (le32 number) (le32 n ++ rest) (length (le32 n) + 4 * j)
      ∙ u32_at-shift (le32 n) rest (4 * j)
      ∙ u32_at-names (take n numbers) (replicate 508 0) j (omega (arith, length-take-le n numbers h)) (omega arith)
      ∙ g

-- ---- sealed

pub take-sealed : (number k : ℕ) (l : List ℕ) → 508 ≤ length l → take 508 (sealed number k l) ≡ take 508 l
unfolding covered
take-sealed number k l h = covered-sealed number k l h

pub u32_at-sealed : (number k : ℕ) (l : List ℕ) (i : ℕ) → 508 ≤ length l → i + 4 ≤ 508
    → u32_at (sealed number k l) i ≡ u32_at l i
u32_at-sealed number k l i h b =
    sym (u32_at-take 508 (sealed number k l) i b)
    ∙ ap (λ (x : List ℕ). u32_at x i) (take-sealed number k l h)
    ∙ u32_at-take 508 l i b

-- a journal that has this head
module _ (number : ℕ) (numbers : List ℕ) (n : ℕ) (small : number < 4294967296) (few : n ≤ 14)
    (listed : n ≤ length numbers) (named : (j : ℕ) → j < n → get_or numbers j 0 < 4294967296)
    (j : List ℕ) (here : head_of j ≡ head number numbers n) where
  enough : 508 ≤ length (head_bytes number numbers n)
  enough = omega (arith, length-head_bytes number numbers n)

  read : (i : ℕ) → i + 4 ≤ 508 → u32_at (head_of j) i ≡ u32_at (head_bytes number numbers n) i
  unfolding head
  read i h = ap (λ (l : List ℕ). u32_at l i) here ∙ u32_at-sealed number 0 (head_bytes number numbers n) i enough h

  pub number-head : number_in j ≡ number
  number-head = read 0 (omega arith) ∙ number-head_bytes number numbers n small

  pub count_head : count_in j ≡ n
  count_head = read 4 (omega arith) ∙ count-head_bytes number numbers n (omega arith)

  pub name-head : (i : ℕ) → i < n → name_in j i ≡ get_or numbers i 0
  name-head i h = read (8 + 4 * i) (omega arith) ∙ name-head_bytes number numbers n few listed i h (named i h)

-- a wiped head names nothing
pub length-wiped : length wiped ≡ 512
unfolding wiped
length-wiped = length-sealed 0 0 (replicate 508 0) (omega (arith, length-replicate 508 zero))

pub count-wiped : (j : List ℕ) → head_of j ≡ wiped → count_in j ≡ 0
unfolding wiped
count-wiped j e =
    ap (λ (l : List ℕ). u32_at l 4) e
    ∙ u32_at-sealed 0 0 (replicate 508 0) 4 (omega (arith, length-replicate 508 zero)) (omega arith)
    ∙ zeros
  where
    zeros : u32_at (replicate 508 0) 4 ≡ 0
    zeros = unfold u32_at in refl

pub length-head : (number : ℕ) (numbers : List ℕ) (n : ℕ) → length (head number numbers n) ≡ 512
unfolding head
length-head number numbers n =
    length-sealed number 0 (head_bytes number numbers n) (omega (arith, length-head_bytes number numbers n))

pub length-ending : (number : ℕ) (numbers : List ℕ) (n : ℕ) → length (ending number numbers n) ≡ 512
unfolding ending
length-ending number numbers n =
    length-sealed number 15 (head_bytes number numbers n) (omega (arith, length-head_bytes number numbers n))
