-- The twelve bytes of an entry: written in four runs, and read again.
use Rattle.std.specs.Prelude.{◌≡◌, refl, Bool, true, false, ◌||◌, List, ◌++◌, ℕ, ◌+◌, ◌-◌, ◌≤◌, eqb, length, drop}
use Rattle.std.proofs.Common.{sym, ◌∙◌, eqb-true, drop-drop, take-add}
use Rattle.std.proofs.Math.Path.{ap}
use Rattle.std.proofs.Math.Nat.{add-zero}
use native.Mathlib.Omega.{arith}
use Rattle.std.proofs.Math.ListN.{take}
use Rattle.std.proofs.lemmas.List.Edits.{sets}
use Rattle.lists.specs.Bytes.{Bytes, part}
use Rattle.lists.specs.BytesLaws.{sets-append}
use Rattle.endian.specs.Endian.{le16, le32, u16_at, u32_at}
use Rattle.endian.proofs.EndianLaws.{u16_at-le16, u32_at-le32, u16_at-shift, u32_at-shift, le16-read, le32-read}
use Rattle.endian.proofs.EndianLaws.{u16_at-take, u32_at-take, u16_at-drop, u32_at-drop}
use Rattle.page.specs.declared.Entry.{Entry}
use Rattle.page.specs.Pair.{PairFits}
use Rattle.page.specs.Entries.{entry_flags, encode_entry, read_entry}

pub length-encode_entry : (e : Entry) → length (encode_entry e) ≡ 12
unfolding encode_entry le16 le32
length-encode_entry e = refl

-- an entry's four stores are one run
pub sets-encode_entry : (l : List ℕ) (i : ℕ) (e : Entry)
    → sets (sets (sets (sets l i (le32 e.pair.hash)) (i + 4) (le32 e.pair.block))
    (i + 8) (le16 e.pair.offset)) (i + 10) (le16 (entry_flags e.moved))
    ≡ sets l i (encode_entry e)
unfolding encode_entry le16 le32
sets-encode_entry l i e =
    let l₁ = sets l i (le32 e.pair.hash) in
    let l₂ = sets l₁ (i + 4) (le32 e.pair.block) in
    let offset = le16 e.pair.offset in
    let flags = le16 (entry_flags e.moved) in
    let e₈ : i + 8 ≡ i + 4 + 4 = omega arith in
    let e₁₀ : i + 10 ≡ i + 8 + 2 = omega arith in
    ap (λ (n : ℕ). sets (sets l₂ (i + 8) offset) n flags) e₁₀
    ∙ sets-append offset flags l₂ (i + 8)
    ∙ ap (λ (n : ℕ). sets l₂ n (offset ++ flags)) e₈
    ∙ sets-append (le32 e.pair.block) (offset ++ flags) l₁ (i + 4)
    ∙ sets-append (le32 e.pair.hash) (le32 e.pair.block ++ (offset ++ flags)) l i

-- ---- what was written is read

pub read_entry-encode_entry : (e : Entry) (q : List ℕ) → PairFits e.pair → read_entry (encode_entry e ++ q) 0 ≡ e
unfolding read_entry encode_entry u16_at u32_at le16 le32
read_entry-encode_entry e q f i =
    record {
      pair = record {
        hash = u32_at-le32 e.pair.hash f.hash i;
        block = u32_at-le32 e.pair.block f.block i;
        offset = u16_at-le16 e.pair.offset f.offset i;
      };
      moved = flag e.moved i;
    }
  where
    flag : (m : Bool) → eqb (u16_at (le16 (entry_flags m)) 0) 0x2000 ≡ m
    flag true = refl
    flag false = refl

pub flags-encode_entry : (e : Entry) (q : List ℕ) → u16_at (encode_entry e ++ q) 10 ≡ entry_flags e.moved
unfolding encode_entry u16_at le16 le32
flags-encode_entry e q = go e.moved
  where
    go : (m : Bool) → u16_at (le16 (entry_flags m)) 0 ≡ entry_flags m
    go true = refl
    go false = refl

pub read_entry-shift : (p l : List ℕ) (i : ℕ) → length p ≡ i → read_entry (p ++ l) i ≡ read_entry l 0
unfolding read_entry
read_entry-shift p l i h =
    let z : i ≡ length p + 0 = omega arith in
    let a : u32_at (p ++ l) i ≡ u32_at l 0 = ap (u32_at (p ++ l)) z ∙ u32_at-shift p l 0 in
    let b : u32_at (p ++ l) (i + 4) ≡ u32_at l 4 = ap (λ (n : ℕ). u32_at (p ++ l) (n + 4)) (sym h) ∙ u32_at-shift p l 4 in
    let o : u16_at (p ++ l) (i + 8) ≡ u16_at l 8 = ap (λ (n : ℕ). u16_at (p ++ l) (n + 8)) (sym h) ∙ u16_at-shift p l 8 in
    let f : u16_at (p ++ l) (i + 10) ≡ u16_at l 10 =
    ap (λ (n : ℕ). u16_at (p ++ l) (n + 10)) (sym h) ∙ u16_at-shift p l 10 in
    rw (a, b, o, f)

-- what is read of a part is read of the whole
module _ (a e : ℕ) (l : List ℕ) where
  -- by any reader of w bytes
  at_part : (w : ℕ) (at : List ℕ → ℕ → ℕ) → ((n : ℕ) (m : List ℕ) (j : ℕ) → j + w ≤ n → at (take n m) j ≡ at m j)
      → ((n : ℕ) (m : List ℕ) (j : ℕ) → at (drop n m) j ≡ at m (n + j)) → (i j : ℕ) → i + j + w ≤ e - a
      → at (part a e l) (i + j) ≡ at l (a + i + j)
  unfolding part
  at_part w at of-take of-drop i j h =
      let k : a + (i + j) ≡ a + i + j = omega arith in
      of-take (e - a) (drop a l) (i + j) h ∙ of-drop a l (i + j) ∙ ap (at l) k

  pub read_entry-part : (i : ℕ) → i + 12 ≤ e - a → read_entry (part a e l) i ≡ read_entry l (a + i)
  unfolding read_entry
  read_entry-part i h =
      let word = at_part 4 u32_at u32_at-take u32_at-drop i in
      let half = at_part 2 u16_at u16_at-take u16_at-drop i in
      let hash : u32_at (part a e l) i ≡ u32_at l (a + i) = simp add-zero at (word 0 (omega arith)) in
      rw (hash, word 4 (omega arith), half 8 (omega arith), half 10 (omega arith))

-- ---- what was read is written

-- flags that the page rule allows are those of what was read
entry_flags-read : (f : ℕ) → eqb f 0 || eqb f 0x2000 ≡ true → entry_flags (eqb f 0x2000) ≡ f
entry_flags-read f h = go (eqb f 0) (eqb f 0x2000) refl refl h
  where
    go : (a b : Bool) → eqb f 0 ≡ a → eqb f 0x2000 ≡ b → a || b ≡ true → entry_flags b ≡ f
    go a true p q h = sym (eqb-true f 0x2000 q)
    go true false p q h = sym (eqb-true f 0 p)
    go false false p q h = let z : ◌≡◌ {A = ℕ} 0 1 = cc in omega arith

module _ (l : List ℕ) (bytes : Bytes l) where
  -- m more bytes after n
  more : (n m i : ℕ) → take n (drop i l) ++ take m (drop (i + n) l) ≡ take (n + m) (drop i l)
  more n m i =
      ap (λ (x : List ℕ). take n (drop i l) ++ take m x) (sym (drop-drop n i l)) ∙ sym (take-add n m (drop i l))

  pub encode_entry-read_entry : (i : ℕ) → i + 12 ≤ length l
      → eqb (u16_at l (i + 10)) 0 || eqb (u16_at l (i + 10)) 0x2000 ≡ true
      → encode_entry (read_entry l i) ≡ take 12 (drop i l)
  unfolding encode_entry read_entry
  encode_entry-read_entry i h g =
      let e₈ : i + 4 + 4 ≡ i + 8 = omega arith in
      let e₁₀ : i + 8 + 2 ≡ i + 10 = omega arith in
      let flags = entry_flags-read (u16_at l (i + 10)) g in
      let a = le32-read l bytes i (omega arith) in
      let b = le32-read l bytes (i + 4) (omega arith) in
      let o = le16-read l bytes (i + 8) (omega arith) in
      let f = le16-read l bytes (i + 10) (omega arith) in
      let of : take 2 (drop (i + 8) l) ++ take 2 (drop (i + 10) l) ≡ take 4 (drop (i + 8) l) =
      rw (← e₁₀) (more 2 2 (i + 8)) in
      let bof : take 4 (drop (i + 4) l) ++ take 4 (drop (i + 8) l) ≡ take 8 (drop (i + 4) l) =
      rw (← e₈) (more 4 4 (i + 4)) in
      cc (more 4 8 i)
