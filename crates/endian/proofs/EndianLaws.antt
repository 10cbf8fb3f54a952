-- Little-endian numbers in a list: what is read where it was written and elsewhere, what is written of what was read.
use Rattle.std.specs.Prelude.{◌≡◌, refl, ◌⊎◌, List, ◌∷◌, ◌++◌, take}
use Rattle.std.proofs.Common.{sym, ap₂, ◌∙◌, inl, inr, ⊎_elim, add-zero, add_assoc, get_or-take, get_or-drop, get_or-append-add, drop-drop, take-add}
use Rattle.std.proofs.Math.Path.{ap}
use Prim.Native.Nat.{ℕ, zero, suc, ◌+◌, ◌*◌, ◌/◌, ◌%◌, ◌^◌, ◌≤◌, ◌<◌}
use Rattle.std.proofs.Math.Nat.{div-div-eq-div-mul, mod-eq_of_lt, mod-mod}
use Rattle.std.proofs.Math.Numerals.{add-one}
use native.Mathlib.Omega.{arith}
use Rattle.std.proofs.Math.Arith.{digits_div, digits_mod}
use Rattle.std.proofs.Math.Pow.{field}
use Rattle.std.proofs.Math.ListN.{length, get_or, drop, get_or-append}
use Rattle.std.proofs.lemmas.List.Edits.{sets}
use Rattle.std.proofs.Math.Seq.{drop-cons}
use Rattle.lists.specs.Bytes.{Bytes}
use Rattle.lists.specs.BytesLaws.{get_or-sets-in, get_or-sets-out, sets-append, Bytes-append}
use Rattle.endian.specs.Endian.{le16, le32, u16_at, u32_at}

pub length-le16 : (v : ℕ) → length (le16 v) ≡ 2
unfolding le16
length-le16 v = refl

pub length-le32 : (v : ℕ) → length (le32 v) ≡ 4
unfolding le32
length-le32 v = refl

-- ---- a 32-bit number is two of 16 bits, the lower first

pub le32-split : (v : ℕ) → le32 v ≡ le16 (v % 65536) ++ le16 (v / 65536)
unfolding le16 le32
le32-split v =
    let a : v % 65536 % 256 ≡ v % 256 = omega arith in
    let b : v % 65536 / 256 % 256 ≡ v / 256 % 256 = ap (λ (x : ℕ). x % 256) (field v 8 8) ∙ mod-mod (v / 256) 256 in
    let d : v / 65536 / 256 ≡ v / 16777216 = div-div-eq-div-mul v 65536 256 in
    rw (a, b, d)

pub sets-le32 : (l : List ℕ) (i v : ℕ)
    → sets l i (le32 v) ≡ sets (sets l i (le16 (v % 65536))) (i + 2) (le16 (v / 65536))
unfolding le16
sets-le32 l i v = rw le32-split (sym (sets-append (le16 (v % 65536)) (le16 (v / 65536)) l i))

pub u32_at-split : (l : List ℕ) (i : ℕ) → u32_at l i ≡ u16_at l i + u16_at l (i + 2) * 65536
unfolding u16_at u32_at
u32_at-split l i =
    let e : i + 2 + 1 ≡ i + 3 = omega arith in
    omega (arith, ap (λ (k : ℕ). get_or l k 0) e)

-- ---- a number read depends on its own bytes alone

-- the w bytes of l from i on are those of m from j on
abbrev pub Agree : ℕ → List ℕ → ℕ → List ℕ → ℕ → Type 0
Agree w l i m j = (k : ℕ) → k < w → get_or l (i + k) 0 ≡ get_or m (j + k) 0

pub u16_at-cong : (l m : List ℕ) (i j : ℕ) → Agree 2 l i m j → u16_at l i ≡ u16_at m j
unfolding u16_at
u16_at-cong l m i j h =
    let a : get_or l i 0 ≡ get_or m j 0 = simp add-zero at (h 0 (omega arith)) in
    omega (arith, a, h 1 (omega arith))

pub u32_at-cong : (l m : List ℕ) (i j : ℕ) → Agree 4 l i m j → u32_at l i ≡ u32_at m j
u32_at-cong l m i j h =
    let a = u16_at-cong l m i j (λ k lt. h k (omega arith)) in
    let b = u16_at-cong l m (i + 2) (j + 2) (λ k lt. simp add_assoc (h (2 + k) (omega arith))) in
    omega (arith, a, b, u32_at-split l i, u32_at-split m j)

-- what follows for any reader of w bytes
module _ (w : ℕ) (at : List ℕ → ℕ → ℕ) (cong : (l m : List ℕ) (i j : ℕ) → Agree w l i m j → at l i ≡ at m j) where
  off : (vs l : List ℕ) (i j : ℕ) → (j + w ≤ i) ⊎ (i + length vs ≤ j) → at (sets l i vs) j ≡ at l j
  off vs l i j h =
      cong (sets l i vs) l j j
      (λ k lt. get_or-sets-out vs l i (j + k) (⊎_elim (λ a. inl (omega arith)) (λ b. inr (omega arith)) h))

  inside : (vs l : List ℕ) (i j : ℕ) → j + w ≤ length vs → i + length vs ≤ length l
      → at (sets l i vs) (i + j) ≡ at vs j
  inside vs l i j h b =
      cong (sets l i vs) vs (i + j) j (λ k lt. rw add_assoc (get_or-sets-in vs l i (j + k) (omega arith) b))

  shift : (p l : List ℕ) (j : ℕ) → at (p ++ l) (length p + j) ≡ at l j
  shift p l j = cong (p ++ l) l (length p + j) j (λ k lt. rw add_assoc (get_or-append-add p l (j + k) 0))

  front : (p l : List ℕ) (j : ℕ) → j + w ≤ length p → at (p ++ l) j ≡ at p j
  front p l j h = cong (p ++ l) p j j (λ k lt. get_or-append p l 0 (j + k) (omega arith))

  of-take : (n : ℕ) (l : List ℕ) (j : ℕ) → j + w ≤ n → at (take n l) j ≡ at l j
  of-take n l j h = cong (take n l) l j j (λ k lt. get_or-take n l (j + k) 0 (omega arith))

  of-drop : (n : ℕ) (l : List ℕ) (j : ℕ) → at (drop n l) j ≡ at l (n + j)
  of-drop n l j = cong (drop n l) l j (n + j) (λ k lt. rw add_assoc (get_or-drop n l (j + k) 0))

-- a number apart from a run of stores stays
pub u16_at-off : (vs l : List ℕ) (i j : ℕ) → (j + 2 ≤ i) ⊎ (i + length vs ≤ j) → u16_at (sets l i vs) j ≡ u16_at l j
u16_at-off = off 2 u16_at u16_at-cong

pub u32_at-off : (vs l : List ℕ) (i j : ℕ) → (j + 4 ≤ i) ⊎ (i + length vs ≤ j) → u32_at (sets l i vs) j ≡ u32_at l j
u32_at-off = off 4 u32_at u32_at-cong

-- one inside of it is the run's
pub u16_at-sets : (vs l : List ℕ) (i j : ℕ) → j + 2 ≤ length vs → i + length vs ≤ length l
    → u16_at (sets l i vs) (i + j) ≡ u16_at vs j
u16_at-sets = inside 2 u16_at u16_at-cong

pub u32_at-sets : (vs l : List ℕ) (i j : ℕ) → j + 4 ≤ length vs → i + length vs ≤ length l
    → u32_at (sets l i vs) (i + j) ≡ u32_at vs j
u32_at-sets = inside 4 u32_at u32_at-cong

-- a number after a front part, and one in it
pub u16_at-shift : (p l : List ℕ) (j : ℕ) → u16_at (p ++ l) (length p + j) ≡ u16_at l j
u16_at-shift = shift 2 u16_at u16_at-cong

pub u32_at-shift : (p l : List ℕ) (j : ℕ) → u32_at (p ++ l) (length p + j) ≡ u32_at l j
u32_at-shift = shift 4 u32_at u32_at-cong

pub u16_at-front : (p l : List ℕ) (j : ℕ) → j + 2 ≤ length p → u16_at (p ++ l) j ≡ u16_at p j
u16_at-front = front 2 u16_at u16_at-cong

pub u32_at-front : (p l : List ℕ) (j : ℕ) → j + 4 ≤ length p → u32_at (p ++ l) j ≡ u32_at p j
u32_at-front = front 4 u32_at u32_at-cong

pub u16_at-take : (n : ℕ) (l : List ℕ) (j : ℕ) → j + 2 ≤ n → u16_at (take n l) j ≡ u16_at l j
u16_at-take = of-take 2 u16_at u16_at-cong

pub u32_at-take : (n : ℕ) (l : List ℕ) (j : ℕ) → j + 4 ≤ n → u32_at (take n l) j ≡ u32_at l j
u32_at-take = of-take 4 u32_at u32_at-cong

pub u16_at-drop : (n : ℕ) (l : List ℕ) (j : ℕ) → u16_at (drop n l) j ≡ u16_at l (n + j)
u16_at-drop = of-drop 2 u16_at u16_at-cong

pub u32_at-drop : (n : ℕ) (l : List ℕ) (j : ℕ) → u32_at (drop n l) j ≡ u32_at l (n + j)
u32_at-drop = of-drop 4 u32_at u32_at-cong

-- ---- the bytes of a number give it back

pub u16_at-le16 : (v : ℕ) → v < 2 ^ 16 → u16_at (le16 v) 0 ≡ v
unfolding u16_at le16
u16_at-le16 v h = omega arith

pub u32_at-le32 : (v : ℕ) → v < 2 ^ 32 → u32_at (le32 v) 0 ≡ v
unfolding le32 le16
u32_at-le32 v h =
    let low : List ℕ = le16 (v % 65536) in
    let high : List ℕ = le16 (v / 65536) in
    let a = u16_at-front low high 0 (omega arith) ∙ u16_at-le16 (v % 65536) (omega arith) in
    let b = u16_at-shift low high 0 ∙ u16_at-le16 (v / 65536) (omega arith) in
    rw le32-split (u32_at-split (low ++ high) 0 ∙ omega (arith, a, b))

-- what was written is read
pub u16_at-put : (l : List ℕ) (i v : ℕ) → i + 2 ≤ length l → v < 2 ^ 16 → u16_at (sets l i (le16 v)) i ≡ v
unfolding le16
u16_at-put l i v b h = rw add-zero at (u16_at-sets (le16 v) l i 0 (omega arith) b) ∙ u16_at-le16 v h

pub u32_at-put : (l : List ℕ) (i v : ℕ) → i + 4 ≤ length l → v < 2 ^ 32 → u32_at (sets l i (le32 v)) i ≡ v
unfolding le32
u32_at-put l i v b h = rw add-zero at (u32_at-sets (le32 v) l i 0 (omega arith) b) ∙ u32_at-le32 v h

-- ---- bytes

pub Bytes-le16 : (v : ℕ) → Bytes (le16 v)
unfolding le16
Bytes-le16 v zero = omega arith
Bytes-le16 v (suc zero) = omega arith
Bytes-le16 v (suc (suc i)) = omega arith

pub Bytes-le32 : (v : ℕ) → Bytes (le32 v)
Bytes-le32 v =
    rw le32-split
    (Bytes-append (le16 (v % 65536)) (le16 (v / 65536)) (Bytes-le16 (v % 65536)) (Bytes-le16 (v / 65536)))

module _ (l : List ℕ) (bytes : Bytes l) where
  pub u16_at-lt : (i : ℕ) → u16_at l i < 2 ^ 16
  unfolding u16_at
  u16_at-lt i = omega (arith, bytes i, bytes (i + 1))

  pub u32_at-lt : (i : ℕ) → u32_at l i < 2 ^ 32
  u32_at-lt i = omega (arith, u32_at-split l i, u16_at-lt i, u16_at-lt (i + 2))

  -- what was read is written again
  pub le16-read : (i : ℕ) → i + 2 ≤ length l → le16 (u16_at l i) ≡ take 2 (drop i l)
  unfolding le16 u16_at
  le16-read i h =
      let a : ℕ = get_or l i 0 in
      let b : ℕ = get_or l (i + 1) 0 in
      let e : a + b * 256 ≡ b * 256 + a = omega arith in
      let lo : (a + b * 256) % 256 ≡ a = ap (λ (n : ℕ). n % 256) e ∙ digits_mod b (bytes i) in
      let hi : (a + b * 256) / 256 ≡ b = ap (λ (n : ℕ). n / 256) e ∙ digits_div b (bytes i) in
      let d : drop i l ≡ a ∷ (b ∷ drop (suc (suc i)) l) =
      let h₀ : i < length l = omega arith in
      let h₁ : suc i < length l = omega arith in
      rw (drop-cons l i 0 h₀, drop-cons l (suc i) 0 h₁, add-one i) in
      rw (lo, hi, mod-eq_of_lt (bytes (i + 1)), d)

  pub le32-read : (i : ℕ) → i + 4 ≤ length l → le32 (u32_at l i) ≡ take 4 (drop i l)
  le32-read i h =
      let a : ℕ = u16_at l i in
      let b : ℕ = u16_at l (i + 2) in
      let e : u32_at l i ≡ b * 65536 + a = omega (arith, u32_at-split l i) in
      let lo : u32_at l i % 65536 ≡ a = ap (λ (n : ℕ). n % 65536) e ∙ digits_mod b (u16_at-lt i) in
      let hi : u32_at l i / 65536 ≡ b = ap (λ (n : ℕ). n / 65536) e ∙ digits_div b (u16_at-lt i) in
      le32-split (u32_at l i)
      ∙ ap₂ (λ (x y : ℕ). le16 x ++ le16 y) lo hi
      ∙ ap₂ (λ (x y : List ℕ). x ++ y) (le16-read i (omega arith)) (le16-read (i + 2) (omega arith))
      ∙ ap (λ (x : List ℕ). take 2 (drop i l) ++ take 2 x) (sym (drop-drop 2 i l))
      ∙ sym (take-add 2 2 (drop i l))
