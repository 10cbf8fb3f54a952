-- Head, end and wiped head as they are written: numbers put one after the other into 512 zeros, and a check.
use Rattle.std.specs.Prelude.{◌≡◌, get_or, take}
use Rattle.std.proofs.Math.Path.{refl, sym, ap}
use Rattle.std.proofs.Common.{◌∙◌, add-one, take-suc, take_at}
use mathlib.Core.List.{List, [], ◌∷◌, ◌++◌, append_assoc, append-nil}
use Prim.Native.Nat.{ℕ, zero, suc, ◌+◌, ◌*◌, ◌-◌, ◌≤◌, ◌<◌}
use native.Mathlib.Omega.{arith}
use Rattle.std.proofs.Math.ListN.{length, drop, replicate, length-append, length-replicate}
use Rattle.std.proofs.lemmas.List.{replicate-append-replicate, take-append-le}
use Rattle.std.proofs.lemmas.List.Edits.{sets}
use Rattle.std.proofs.Math.Seq.{sets-eq, drop_at, drop-append-add, length-take-le}
use Rattle.lists.specs.Lists.{bind}
use Rattle.lists.specs.ListsLaws.{bind-append}
use Rattle.endian.specs.Endian.{le32}
use Rattle.endian.proofs.EndianLaws.{length-le32}
use Rattle.crc32c.specs.Crc.{crc_of}
use Rattle.store.specs.Store.{covered, check_of, sealed}
use Rattle.store.proofs.CheckLaws.{sealed-body, sets-check}
use Rattle.journal.specs.Journal.{head_bytes, wiped}

-- a wiped head: zeros, and their check, computed
wiped-check : check_of 0 0 (replicate 512 0) ≡ 0xB84E1C9B
unfolding check_of covered le32 crc_of
wiped-check = refl

pub wiped-written : sets (replicate 512 0) 508 (le32 0xB84E1C9B) ≡ wiped
unfolding wiped covered
wiped-written =
    ap (λ (v : ℕ). sets (replicate 512 0) 508 (le32 v)) (sym wiped-check)
    ∙ sets-check 0 0 (replicate 512 0) refl
    ∙ sealed-body 0 0 (replicate 512 0) (replicate 508 0) refl

names : List ℕ → List ℕ
names ns = bind ns le32

length-names : (ns : List ℕ) → length (names ns) ≡ 4 * length ns
unfolding names
length-names [] = refl
length-names (x ∷ xs) = length-append (le32 x) (names xs) ∙ omega (arith, length-le32 x, length-names xs)

module _ (number n : ℕ) (numbers : List ℕ) where
  front : ℕ → List ℕ
  front i = le32 number ++ (le32 n ++ names (take i numbers))

  -- with the first i names
  pub head_with : ℕ → List ℕ
  head_with i = front i ++ replicate (504 - 4 * i) 0

  length_front : (i : ℕ) → i ≤ length numbers → length (front i) ≡ 8 + 4 * i
  unfolding front
  length_front i h =
      length-append (le32 number) (le32 n ++ names (take i numbers))
      ∙ omega (
        arith,
        length-le32 number,
        length-le32 n,
        length-append (le32 n) (names (take i numbers)),
        length-names (take i numbers),
        length-take-le i numbers h,
      )

  length-head_with : (i : ℕ) → i ≤ length numbers → i ≤ 126 → length (head_with i) ≡ 512
  unfolding head_with
  length-head_with i h few =
      length-append (front i) (replicate (504 - 4 * i) 0)
      ∙ omega (arith, length_front i h, length-replicate (504 - 4 * i) (zero))

  pub head_with-none : sets (sets (replicate 512 0) 0 (le32 number)) 4 (le32 n) ≡ head_with 0
  unfolding head_with front names le32
  head_with-none = refl

  front-suc : (i : ℕ) → i < length numbers → front (suc i) ≡ front i ++ le32 (get_or numbers i 0)
  unfolding front names
  front-suc i h =
      let v = le32 (get_or numbers i 0) in
      ap (λ (l : List ℕ). le32 number ++ (le32 n ++ names l)) (take-suc numbers i 0 h)
      ∙ ap (λ (l : List ℕ). le32 number ++ (le32 n ++ l)) (bind-append le32 (take i numbers) (get_or numbers i 0 ∷ []))
      ∙ ap (λ (l : List ℕ). le32 number ++ (le32 n ++ (names (take i numbers) ++ l))) (append-nil v)
      ∙ sym
      (append_assoc (le32 number) (le32 n ++ names (take i numbers)) v
      ∙ ap (λ (l : List ℕ). le32 number ++ l) (append_assoc (le32 n) (names (take i numbers)) v))

  pub head_with-suc : (i : ℕ) → i < length numbers → i < 126
      → sets (head_with i) (8 + 4 * i) (le32 (get_or numbers i 0)) ≡ head_with (i + 1)
  unfolding head_with
  head_with-suc i h few =
      let v = le32 (get_or numbers i 0) in
      let z : List ℕ = replicate (504 - 4 * i) 0 in
      let m = 504 - 4 * suc i in
      let lf = length_front i (omega arith) in
      let lv = length-le32 (get_or numbers i 0) in
      let e : 8 + 4 * i + length v ≡ length (front i) + 4 = omega arith in
      let k : 504 - 4 * i ≡ 4 + m = omega arith in
      sets-eq v (head_with i) (8 + 4 * i) (omega (arith, length-head_with i (omega arith) (omega arith)))
      ∙ ap (λ (l : List ℕ). l ++ v ++ drop (8 + 4 * i + length v) (front i ++ z)) (take_at (front i) z (8 + 4 * i) lf)
      ∙ ap (λ (x : ℕ). front i ++ v ++ drop x (front i ++ z)) e
      ∙ ap (λ (l : List ℕ). front i ++ v ++ l)
      (drop-append-add (front i) z 4
      ∙ ap (λ (x : ℕ). drop 4 (replicate x 0)) k
      ∙ ap (drop 4) (sym (replicate-append-replicate 4 m 0))
      ∙ drop_at (replicate 4 0) (replicate m 0) 4 refl)
      ∙ ap (λ (l : List ℕ). l ++ replicate m 0) (sym (front-suc i h))
      ∙ ap head_with (sym (add-one i))

  head_with-all : n ≤ length numbers → n ≤ 126 → take 508 (head_with n) ≡ head_bytes number numbers n
  unfolding head_with front head_bytes names
  head_with-all h few =
      let a : List ℕ = replicate (504 - 4 * n) 0 in
      let b : List ℕ = replicate (4 + 4 * n) 0 in
      let e : 504 - 4 * n + (4 + 4 * n) ≡ 508 = omega arith in
      sym (take-append-le 508 (front n ++ a) b (omega (arith, length-head_with n h few)))
      ∙ ap (take 508)
      (append_assoc (front n) a b
      ∙ ap (λ (l : List ℕ). front n ++ l)
      (replicate-append-replicate (504 - 4 * n) (4 + 4 * n) 0 ∙ ap (λ (x : ℕ). replicate x 0) e)
      ∙ append_assoc (le32 number) (le32 n ++ names (take n numbers)) (replicate 508 0)
      ∙ ap (λ (l : List ℕ). le32 number ++ l) (append_assoc (le32 n) (names (take n numbers)) (replicate 508 0)))

  -- and sealed, as block k of a journal
  pub head_with-sealed : n ≤ length numbers → n ≤ 126 → (k : ℕ)
      → sealed number k (head_with n) ≡ sealed number k (head_bytes number numbers n)
  unfolding covered
  head_with-sealed h few k = sealed-body number k (head_with n) (head_bytes number numbers n) (head_with-all h few)
