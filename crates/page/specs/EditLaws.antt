-- The page after an entry is put into a slot, and after one is taken out.
use Rattle.std.specs.Prelude.{◌≡◌, refl, false, List, ◌∷◌, ◌++◌, ℕ, suc, ◌+◌, ◌-◌, ◌*◌, ◌≤◌, ◌<◌, length, get_or, take, drop, replicate}
use Rattle.std.proofs.Common.{sym, ap, ap₂, ◌∙◌, append_assoc, arith, length-append, take-append-drop, length-take-le}
use Rattle.std.proofs.lemmas.List.{replicate-append-replicate}
use Rattle.std.proofs.lemmas.List.Edits.{sets}
use Rattle.std.proofs.Math.Seq.{split_at}
use Rattle.endian.specs.Endian.{le16, le32}
use Rattle.page.specs.declared.Entry.{Entry}
use Rattle.page.specs.Entries.{encode_entry, encode_page}
use Rattle.page.specs.Places.{remove_at, insert_at}
use Rattle.page.specs.EntryLaws.{length-encode_entry}
use Rattle.page.specs.PageLaws.{encode_entries, encode_entries-append, length-encode_entries}
use Rattle.page.specs.Gap.{opened, closed}
use Rattle.page.specs.GapLaws.{sets-opened, sets-closed}

-- the bytes before the entries B, where the number is n
abbrev front : ℕ → List Entry → List ℕ
front n A = le16 n ++ (le16 0 ++ encode_entries A)

-- the bytes after n entries
abbrev rest : ℕ → List ℕ → List ℕ
rest n tail = replicate (488 - 12 * n) 0 ++ tail

page-at : (A B : List Entry) (tail : List ℕ) (n : ℕ) → length (A ++ B) ≡ n
    → encode_page (A ++ B) tail ≡ front n A ++ (encode_entries B ++ rest n tail)
unfolding encode_page le16
page-at A B tail n h =
    ap₂ (λ (m : ℕ) (x : List ℕ). le16 m ++ (le16 0 ++ (x ++ rest m tail))) h (encode_entries-append A B)
    ∙ ap (λ (x : List ℕ). le16 n ++ (le16 0 ++ x)) (append_assoc (encode_entries A) (encode_entries B) (rest n tail))

length_front : (n : ℕ) (A : List Entry) → length (front n A) ≡ 4 + 12 * length A
unfolding le16
length_front n A = omega (arith, length-encode_entries A)

-- the number is written over
number-set : (m n : ℕ) (A : List Entry) (X : List ℕ) → sets (front m A ++ X) 0 (le16 n) ≡ front n A ++ X
unfolding le16
number-set m n A X = refl

rest-split : (n : ℕ) (tail : List ℕ) → n < 40 → rest n tail ≡ replicate 12 0 ++ rest (n + 1) tail
rest-split n tail h =
    ap (λ (m : ℕ). replicate m 0 ++ tail) (room n h)
    ∙ ap (λ (x : List ℕ). x ++ tail) (sym (replicate-append-replicate 12 (488 - 12 * (n + 1)) 0))
    ∙ append_assoc (replicate 12 0) (replicate (488 - 12 * (n + 1)) 0) tail
  where
    room : (n : ℕ) → n < 40 → 488 - 12 * n ≡ 12 + (488 - 12 * (n + 1))
    room n h = omega arith

-- the bytes of a page of n entries after an insertion at slot k of the twelve bytes E
abbrev pub with_entry : List ℕ → ℕ → ℕ → List ℕ → List ℕ
with_entry l n k E = sets (sets (opened l (4 + 12 * k) (4 + 12 * n)) (4 + 12 * k) E) 0 (le16 (n + 1))

-- the bytes of a page of n entries after the one in slot k is taken out, m being n - 1, and Z put into the last slot
abbrev pub without_entry : List ℕ → ℕ → ℕ → ℕ → List ℕ → List ℕ
without_entry l n m k Z = sets (sets (closed l (4 + 12 * k) (4 + 12 * n)) (4 + 12 * m) Z) 0 (le16 m)

-- n entries A and B without e, and n + 1 with it
module _ (A B : List Entry) (e : Entry) (tail : List ℕ) (n : ℕ) (count : length (A ++ B) ≡ n) (small : n < 40) where
  sizes : length A + length B ≡ n
  sizes = sym (length-append A B) ∙ count

  page-without : encode_page (A ++ B) tail ≡ front n A ++ (encode_entries B ++ (replicate 12 0 ++ rest (n + 1) tail))
  page-without =
      page-at A B tail n count
      ∙ ap (λ (x : List ℕ). front n A ++ (encode_entries B ++ x)) (rest-split n tail small)

  page-with : encode_page (A ++ e ∷ B) tail
      ≡ front (n + 1) A ++ (encode_entry e ++ (encode_entries B ++ rest (n + 1) tail))
  page-with =
      page-at A (e ∷ B) tail (n + 1) (length-append A (e ∷ B) ∙ omega (arith, sizes))
      ∙ ap (λ (x : List ℕ). front (n + 1) A ++ x) (append_assoc (encode_entry e) (encode_entries B) (rest (n + 1) tail))

  put-in : with_entry (encode_page (A ++ B) tail) n (length A) (encode_entry e) ≡ encode_page (A ++ e ∷ B) tail
  put-in =
      let a : ℕ = 4 + 12 * length A in
      let inner =
      sets-opened (front n A) (encode_entries B) (replicate 12 0) (rest (n + 1) tail) (encode_entry e) a (4 + 12 * n)
      (length_front n A) (omega (arith, length-encode_entries B, sizes)) refl (length-encode_entry e) in
      ap (λ (l : List ℕ). with_entry l n (length A) (encode_entry e)) page-without
      ∙ ap (λ (l : List ℕ). sets l 0 (le16 (n + 1))) inner
      ∙ number-set n (n + 1) A (encode_entry e ++ (encode_entries B ++ rest (n + 1) tail))
      ∙ sym page-with

  take_out : (Z : List ℕ) → Z ≡ replicate 12 0
      → without_entry (encode_page (A ++ e ∷ B) tail) (n + 1) n (length A) Z ≡ encode_page (A ++ B) tail
  take_out Z z =
      let a : ℕ = 4 + 12 * length A in
      let b : ℕ = 4 + 12 * (n + 1) in
      let last : 4 + 12 * n ≡ b - 12 = omega arith in
      let inner =
      sets-closed (front (n + 1) A) (encode_entry e) (encode_entries B) (rest (n + 1) tail) Z a b
      (length_front (n + 1) A) (length-encode_entry e) (omega (arith, length-encode_entries B, sizes)) (ap length z) in
      ap₂ (λ (l : List ℕ) (i : ℕ). sets (sets (closed l a b) i Z) 0 (le16 n)) page-with last
      ∙ ap (λ (l : List ℕ). sets l 0 (le16 n)) inner
      ∙ number-set (n + 1) n A (encode_entries B ++ (Z ++ rest (n + 1) tail))
      ∙ ap (λ (x : List ℕ). front n A ++ (encode_entries B ++ (x ++ rest (n + 1) tail))) z
      ∙ sym page-without

-- ---- slots

pub insert-page : (es : List Entry) (tail : List ℕ) (k : ℕ) (e : Entry) → k ≤ length es → length es < 40
    → with_entry (encode_page es tail) (length es) k (encode_entry e) ≡ encode_page (insert_at k e es) tail
unfolding insert_at
insert-page es tail k e h small =
    let n : ℕ = length es in
    let split = take-append-drop k es in
    let size : length (take k es) ≡ k = length-take-le k es h in
    ap₂ (λ (x : List Entry) (m : ℕ). with_entry (encode_page x tail) n m (encode_entry e)) (sym split) (sym size)
    ∙ put-in (take k es) (drop k es) e tail n (ap length split) small

-- an entry of zeros, which clears a slot
abbrev pub blank : Entry
blank = record { pair = record { hash = 0; block = 0; offset = 0 }; moved = false }

blank-zero : encode_entry blank ≡ replicate 12 0
unfolding encode_entry le16 le32
blank-zero = refl

pub remove-page : (es : List Entry) (tail : List ℕ) (k : ℕ) → k < length es → length es ≤ 40
    → without_entry (encode_page es tail) (length es) (length es - 1) k (encode_entry blank)
    ≡ encode_page (remove_at k es) tail
unfolding remove_at
remove-page es tail k h small =
    let A = take k es in
    let B = drop (suc k) es in
    let n : ℕ = length es - 1 in
    let split : es ≡ A ++ get_or es k blank ∷ B = split_at es k blank h in
    let size : length A ≡ k = length-take-le k es (omega arith) in
    let more : length es ≡ n + 1 = omega arith in
    let count : length (A ++ B) ≡ n =
    omega (arith, length-append A B, length-append A (get_or es k blank ∷ B), ap length split) in
    let out = take_out A B (get_or es k blank) tail n count (omega arith) (encode_entry blank) blank-zero in
    rw (← split, size, ← more) at out
