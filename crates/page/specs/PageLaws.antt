-- The bytes of a page with given entries: their number, what is read of them, and the page that is read from bytes.
use Rattle.std.specs.Prelude.{◌≡◌, List, [], ◌∷◌, ◌++◌, ℕ, zero, suc, ◌+◌, ◌-◌, ◌*◌, ◌^◌, ◌≤◌, ◌<◌, get_or, drop, replicate}
use Rattle.std.proofs.Math.Path.{refl}
use Rattle.std.proofs.Common.{sym, ap, ap₂, ◌∙◌, append_assoc, drop_at}
use native.Mathlib.Omega.{arith}
use Rattle.std.proofs.Math.ListN.{length, length-append, length-replicate}
use Rattle.lists.specs.Lists.{bind, Each}
use Rattle.lists.specs.Bytes.{Bytes}
use Rattle.lists.specs.BytesLaws.{Bytes-append, Bytes-replicate}
use Rattle.endian.specs.Endian.{le16, le32, u16_at}
use Rattle.endian.proofs.EndianLaws.{length-le16, u16_at-shift, Bytes-le16, Bytes-le32}
use Rattle.page.specs.declared.Entry.{Entry}
use Rattle.page.specs.Pair.{PairFits}
use Rattle.page.specs.Entries.{entry_flags, encode_entry, encode_page, read_entry, entry_at, entries_from, entries_of}
use Rattle.page.specs.EntryLaws.{length-encode_entry, read_entry-encode_entry, read_entry-shift, flags-encode_entry}

-- the entries' bytes, one after the other
abbrev pub encode_entries : List Entry → List ℕ
encode_entries es = bind es encode_entry

pub encode_entries-append : (es fs : List Entry) → encode_entries (es ++ fs) ≡ encode_entries es ++ encode_entries fs
encode_entries-append [] fs = refl
encode_entries-append (e ∷ es) fs =
    ap (λ (x : List ℕ). encode_entry e ++ x) (encode_entries-append es fs)
    ∙ sym (append_assoc (encode_entry e) (encode_entries es) (encode_entries fs))

pub length-encode_entries : (es : List Entry) → length (encode_entries es) ≡ 12 * length es
length-encode_entries [] = refl
length-encode_entries (e ∷ es) =
    length-append (encode_entry e) (encode_entries es) ∙ omega (arith, length-encode_entry e, length-encode_entries es)

-- ---- length and number

module _ (es : List Entry) (tail : List ℕ) where
  length-page : length (encode_page es tail) ≡ 4 + (12 * length es + (488 - 12 * length es + length tail))
  unfolding encode_page le16
  length-page =
      let a = length-append (encode_entries es) (replicate (488 - 12 * length es) 0 ++ tail) in
      let b = length-append (replicate (488 - 12 * length es) 0) tail in
      omega (arith, a, b, length-encode_entries es, length-replicate {A = ℕ} (488 - 12 * length es) 0)

  pub length-encode_page : length es ≤ 40 → length (encode_page es tail) ≡ 492 + length tail
  length-encode_page h = omega (arith, length-page)

  pub number-encode_page : length es < 2 ^ 16 → u16_at (encode_page es tail) 0 ≡ length es
  unfolding encode_page le16 u16_at
  number-encode_page h = omega arith

  pub zeros-encode_page : u16_at (encode_page es tail) 2 ≡ 0
  unfolding encode_page le16 u16_at
  zeros-encode_page = refl

  -- the front, the entries, the zeros and the rest
  pub encode_page-parts : encode_page es tail
      ≡ (le16 (length es) ++ le16 0) ++ (encode_entries es ++ (replicate (488 - 12 * length es) 0 ++ tail))
  unfolding encode_page le16
  encode_page-parts = refl

  pub drop-encode_page : length es ≤ 40 → drop 492 (encode_page es tail) ≡ tail
  drop-encode_page h =
      let E = encode_entries es in
      let Z : List ℕ = replicate (488 - 12 * length es) 0 in
      let front : List ℕ = (le16 (length es) ++ le16 0) ++ (E ++ Z) in
      let split : encode_page es tail ≡ front ++ tail = encode_page-parts ∙ simp append_assoc in
      let size : length front ≡ 492 =
      simp (length-append, length-le16, length-encode_entries, length-replicate) (omega arith) in
      ap (drop 492) split ∙ drop_at front tail 492 size

-- 512 bytes that encode entries have their number at 0
pub number-page : (l : List ℕ) (es : List Entry) (tail : List ℕ) → length l ≡ 512 → l ≡ encode_page es tail
    → u16_at l 0 ≡ length es
number-page l es tail h e =
    ap (λ (x : List ℕ). u16_at x 0) e
    ∙ number-encode_page es tail (omega (arith, ap length e, length-page es tail))

-- ---- what is read of an encoding

entries_from-encode : (es : List Entry) (p q : List ℕ) (i : ℕ) → Each (λ e. PairFits e.pair) es
    → length p ≡ 4 + 12 * i → entries_from (p ++ (encode_entries es ++ q)) i (length es) ≡ es
unfolding entries_from entry_at
entries_from-encode [] p q i f h = refl
entries_from-encode (e ∷ es) p q i f h =
    let E = encode_entry e in
    let rest = encode_entries es in
    let one : p ++ (E ++ rest ++ q) ≡ p ++ E ++ (rest ++ q) = simp append_assoc in
    ap₂ (λ (x : Entry) (xs : List Entry). x ∷ xs)
    (ap (λ (l : List ℕ). read_entry (p ++ l) (4 + 12 * i)) (append_assoc E rest q)
    ∙ read_entry-shift p (E ++ (rest ++ q)) (4 + 12 * i) h
    ∙ read_entry-encode_entry e (rest ++ q) f.0)
    (ap (λ (l : List ℕ). entries_from l (suc i) (length es)) one
    ∙ entries_from-encode es (p ++ E) q (suc i) f.1 (length-append p E ∙ omega (arith, length-encode_entry e)))

pub entries_of-encode_page : (es : List Entry) (tail : List ℕ) → length es < 2 ^ 16 → Each (λ e. PairFits e.pair) es
    → entries_of (encode_page es tail) ≡ es
unfolding entries_of le16
entries_of-encode_page es tail h f =
    ap₂ (λ (l : List ℕ) (n : ℕ). entries_from l 0 n) (encode_page-parts es tail) (number-encode_page es tail h)
    ∙ entries_from-encode es (le16 (length es) ++ le16 0) (replicate (488 - 12 * length es) 0 ++ tail) 0 f refl

-- the flags in slot i + k, where the entries stand from slot i on
flags-encode : (es : List Entry) (p q : List ℕ) (i k : ℕ) (d : Entry) → k < length es → length p ≡ 4 + 12 * i
    → u16_at (p ++ (encode_entries es ++ q)) (4 + 12 * (i + k) + 10) ≡ entry_flags (get_or es k d).moved
flags-encode [] p q i k d l h = absurd (omega arith)
flags-encode (e ∷ es) p q i zero d l h =
    let E = encode_entry e in
    let rest = encode_entries es in
    let at : 4 + 12 * (i + 0) + 10 ≡ length p + 10 = omega arith in
    ap₂ (λ (x : List ℕ) (n : ℕ). u16_at (p ++ x) n) (append_assoc E rest q) at
    ∙ u16_at-shift p (E ++ (rest ++ q)) 10
    ∙ flags-encode_entry e (rest ++ q)
flags-encode (e ∷ es) p q i (suc k) d l h =
    let E = encode_entry e in
    let rest = encode_entries es in
    let one : p ++ (E ++ rest ++ q) ≡ p ++ E ++ (rest ++ q) = simp append_assoc in
    let at : 4 + 12 * (i + suc k) + 10 ≡ 4 + 12 * (suc i + k) + 10 = omega arith in
    ap₂ u16_at one at
    ∙ flags-encode es (p ++ E) q (suc i) k d (omega arith) (length-append p E ∙ omega (arith, length-encode_entry e))

pub flags-encode_page : (es : List Entry) (tail : List ℕ) (k : ℕ) (d : Entry) → k < length es
    → u16_at (encode_page es tail) (4 + 12 * k + 10) ≡ entry_flags (get_or es k d).moved
unfolding le16
flags-encode_page es tail k d h =
    let at : 4 + 12 * k + 10 ≡ 4 + 12 * (0 + k) + 10 = omega arith in
    ap₂ u16_at (encode_page-parts es tail) at
    ∙ flags-encode es (le16 (length es) ++ le16 0) (replicate (488 - 12 * length es) 0 ++ tail) 0 k d h refl

-- ---- bytes

Bytes-encode_entry : (e : Entry) → Bytes (encode_entry e)
unfolding encode_entry
Bytes-encode_entry e =
    Bytes-append (le32 e.pair.hash) _ (Bytes-le32 e.pair.hash)
    (Bytes-append (le32 e.pair.block) _ (Bytes-le32 e.pair.block)
    (Bytes-append (le16 e.pair.offset) _ (Bytes-le16 e.pair.offset) (Bytes-le16 (entry_flags e.moved))))

Bytes-encode_entries : (es : List Entry) → Bytes (encode_entries es)
Bytes-encode_entries [] = λ i. omega arith
Bytes-encode_entries (e ∷ es) =
    Bytes-append (encode_entry e) (encode_entries es) (Bytes-encode_entry e) (Bytes-encode_entries es)

pub Bytes-encode_page : (es : List Entry) (tail : List ℕ) → Bytes tail → Bytes (encode_page es tail)
unfolding encode_page
Bytes-encode_page es tail b =
    Bytes-append (le16 (length es)) _ (Bytes-le16 (length es))
    (Bytes-append (le16 0) _ (Bytes-le16 0)
    (Bytes-append (encode_entries es) _ (Bytes-encode_entries es)
    (Bytes-append (replicate (488 - 12 * length es) 0) tail (Bytes-replicate (488 - 12 * length es)) b)))
