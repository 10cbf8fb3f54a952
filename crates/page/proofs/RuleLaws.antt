-- The page rule: bytes that pass it encode their entries, and an encoding of entries that a page may have passes it.
use Rattle.std.specs.Prelude.{◌≡◌, Bool, true, false, ◌||◌, eqb, get_or}
use Rattle.std.proofs.Math.Path.{refl, sym, ap, ap₂}
use Rattle.std.proofs.Common.{◌∙◌, length-append, take-append-drop, drop-drop, take-add}
use Rattle.std.proofs.Math.Bool.{not}
use mathlib.Core.List.{List, ◌++◌, append_assoc}
use Prim.Native.Nat.{ℕ, zero, suc, ◌+◌, ◌-◌, ◌*◌, ◌≤◌, ◌<◌}
use native.Mathlib.Omega.{arith}
use borrow.Author.Tests.{eq-eqb, eqb-true, le-leb, leb-true}
use Rattle.std.proofs.Math.ListN.{length, take, drop, replicate, length-replicate}
use Rattle.lists.specs.Lists.{all, up_from}
use Rattle.lists.specs.ListsLaws.{and_left, and_right, and_both}
use Rattle.lists.specs.RunLaws.{all-put}
use Rattle.lists.specs.Bytes.{Bytes, part, all_zero}
use Rattle.lists.specs.BytesLaws.{length_part, part_at, all_zero-replicate, replicate-all_zero}
use Rattle.endian.specs.Endian.{le16, u16_at}
use Rattle.endian.proofs.EndianLaws.{length-le16, le16-read}
use Rattle.page.specs.declared.Entry.{Entry}
use Rattle.page.specs.Pair.{bad_pair}
use Rattle.page.specs.Entries.{entry_flags, encode_page, entry_at, entries_from, entries_of}
use Rattle.page.specs.EntryLaws.{encode_entry-read_entry}
use Rattle.page.specs.EntriesLaws.{length-entries_of, entries_of-fit}
use Rattle.page.specs.PageLaws.{encode_entries, length-encode_entries, encode_page-parts}
use Rattle.page.specs.PageLaws.{number-encode_page, zeros-encode_page, entries_of-encode_page, flags-encode_page}
use Rattle.page.specs.Rule.{number_ok, flags_ok, numbers_ok, order_ok, rest_zero, page_ok}
use Rattle.page.specs.Allowed.{Allowed, Sorted}

-- ---- the rule's parts

pub record Parts (l : List ℕ) : Type 0 where
  pub number : number_ok l ≡ true
  pub rest : rest_zero l ≡ true
  pub numbers : numbers_ok l ≡ true
  pub order : order_ok l ≡ true

pub page_ok-parts : (l : List ℕ) → page_ok l ≡ true → Parts l
unfolding page_ok
page_ok-parts l h =
    let h₁ = and_right (number_ok l) _ h in
    let h₂ = and_right (rest_zero l) _ h₁ in
    record {
      number = and_left (number_ok l) _ h;
      rest = and_left (rest_zero l) _ h₁;
      numbers = and_left (numbers_ok l) (order_ok l) h₂;
      order = and_right (numbers_ok l) (order_ok l) h₂;
    }

pub parts-page_ok : (l : List ℕ) → Parts l → page_ok l ≡ true
unfolding page_ok
parts-page_ok l o =
    and_both (number_ok l) _ o.number
    (and_both (rest_zero l) _ o.rest (and_both (numbers_ok l) (order_ok l) o.numbers o.order))

pub number-le : (l : List ℕ) → number_ok l ≡ true → u16_at l 0 ≤ 40
unfolding number_ok
number-le l h = leb-true (u16_at l 0) 40 h

pub page_ok-sorted : (l : List ℕ) → length l ≡ 512 → page_ok l ≡ true → Sorted l
page_ok-sorted l h ok =
    let o = page_ok-parts l ok in
    record { whole = h; number = o.number; order = o.order }

-- ---- what was read is written

module _ (l : List ℕ) (bytes : Bytes l) where
  pub encode-entries_from : (n k : ℕ) → 4 + 12 * (k + n) ≤ length l → all (flags_ok l) (up_from k n) ≡ true
      → encode_entries (entries_from l k n) ≡ take (12 * n) (drop (4 + 12 * k) l)
  unfolding entries_from entry_at flags_ok
  encode-entries_from zero k h f = refl
  encode-entries_from (suc n) k h f =
      let at : ℕ = 4 + 12 * k in
      let next : 4 + 12 * suc k ≡ at + 12 = omega arith in
      let size : 12 + 12 * n ≡ 12 * suc n = omega arith in
      ap₂ (λ (x y : List ℕ). x ++ y)
      (encode_entry-read_entry l bytes at (omega arith) (and_left (flags_ok l k) (all (flags_ok l) (up_from (suc k) n)) f))
      (encode-entries_from n (suc k) (omega arith) (and_right (flags_ok l k) (all (flags_ok l) (up_from (suc k) n)) f)
      ∙ ap (λ (i : ℕ). take (12 * n) (drop i l)) next
      ∙ ap (take (12 * n)) (sym (drop-drop 12 at l)))
      ∙ sym (take-add 12 (12 * n) (drop at l))
      ∙ ap (λ (i : ℕ). take i (drop at l)) size

  cut : (i m : ℕ) → take m (drop i l) ++ drop (i + m) l ≡ drop i l
  cut i m = ap (λ (x : List ℕ). take m (drop i l) ++ x) (sym (drop-drop m i l)) ∙ take-append-drop m (drop i l)

  -- the bytes from the last entry up to the trailer
  zeros : (n : ℕ) → n ≤ 40 → length l ≡ 512 → all_zero (part (4 + 12 * n) 492 l) ≡ true
      → replicate (488 - 12 * n) 0 ++ drop 492 l ≡ drop (4 + 12 * n) l
  unfolding part
  zeros n small h z =
      let size : 492 - (4 + 12 * n) ≡ 488 - 12 * n = omega arith in
      let end : 4 + 12 * n + (492 - (4 + 12 * n)) ≡ 492 = omega arith in
      let len = length_part (4 + 12 * n) 492 l (omega arith) in
      let here : take (492 - (4 + 12 * n)) (drop (4 + 12 * n) l) ≡ replicate (488 - 12 * n) 0 =
      all_zero-replicate (part (4 + 12 * n) 492 l) z ∙ ap (λ (m : ℕ). replicate m 0) (len ∙ size) in
      let joined = cut (4 + 12 * n) (492 - (4 + 12 * n)) in
      rw (here, end) at joined

  pub encode_page-entries_of : length l ≡ 512 → page_ok l ≡ true → l ≡ encode_page (entries_of l) (drop 492 l)
  unfolding encode_page numbers_ok rest_zero entries_of
  encode_page-entries_of h ok =
      let o = page_ok-parts l ok in
      let n : ℕ = u16_at l 0 in
      let small : n ≤ 40 = number-le l o.number in
      let pad : u16_at l 2 ≡ 0 = eqb-true (u16_at l 2) 0 (and_left (eqb (u16_at l 2) 0) _ o.rest) in
      let flags = and_right (all (λ (e : Entry). not (bad_pair e.pair)) (entries_of l)) _ o.numbers in
      let E = encode_entries (entries_from l 0 n) in
      let t₃ = zeros n small h (and_right (eqb (u16_at l 2) 0) _ o.rest) in
      let t₂ : E ++ drop (4 + 12 * n) l ≡ drop 4 l =
      ap (λ (x : List ℕ). x ++ drop (4 + 12 * n) l) (encode-entries_from n 0 (omega arith) flags) ∙ cut 4 (12 * n) in
      let t₁ : le16 0 ++ drop 4 l ≡ drop 2 l =
      ap (λ (x : List ℕ). x ++ drop 4 l) (ap le16 (sym pad) ∙ le16-read l bytes 2 (omega arith)) ∙ cut 2 2 in
      let t₀ : le16 n ++ drop 2 l ≡ l =
      ap (λ (x : List ℕ). x ++ drop 2 l) (le16-read l bytes 0 (omega arith)) ∙ cut 0 2 in
      sym
      (ap (λ (m : ℕ). le16 m ++ (le16 0 ++ (E ++ (replicate (488 - 12 * m) 0 ++ drop 492 l)))) (length-entries_of l)
      ∙ ap (λ (x : List ℕ). le16 n ++ (le16 0 ++ (E ++ x))) t₃
      ∙ ap (λ (x : List ℕ). le16 n ++ (le16 0 ++ x)) t₂
      ∙ ap (λ (x : List ℕ). le16 n ++ x) t₁
      ∙ t₀)

  -- the entries of a page that passes
  pub page_ok-allowed : page_ok l ≡ true → Allowed (entries_of l)
  unfolding numbers_ok order_ok
  page_ok-allowed ok =
      let o = page_ok-parts l ok in
      record {
        few = omega (arith, length-entries_of l, number-le l o.number);
        fit = entries_of-fit l bytes;
        clean = and_left (all (λ (e : Entry). not (bad_pair e.pair)) (entries_of l)) _ o.numbers;
        order = o.order;
      }

-- ---- what was written passes

module _ (es : List Entry) (tail : List ℕ) (good : Allowed es) where
  number : u16_at (encode_page es tail) 0 ≡ length es
  number = number-encode_page es tail (omega (arith, good.few))

  entries : entries_of (encode_page es tail) ≡ es
  entries = entries_of-encode_page es tail (omega (arith, good.few)) good.fit

  flags-fine : (m : Bool) → eqb (entry_flags m) 0 || eqb (entry_flags m) 0x2000 ≡ true
  flags-fine true = refl
  flags-fine false = refl

  encode-flags_ok : (k : ℕ) → k < length es → flags_ok (encode_page es tail) k ≡ true
  unfolding flags_ok
  encode-flags_ok k h =
      let d = entry_at (encode_page es tail) 0 in
      rw (flags-encode_page es tail k d h) (flags-fine (get_or es k d).moved)

  encode-flags : all (flags_ok (encode_page es tail)) (up_from 0 (length es)) ≡ true
  encode-flags =
      all-put (flags_ok (encode_page es tail)) 0 (length es) (λ k low high. encode-flags_ok k (omega arith))

  encode-rest_zero : rest_zero (encode_page es tail) ≡ true
  unfolding rest_zero
  encode-rest_zero =
      let n : ℕ = length es in
      let front : List ℕ = (le16 n ++ le16 0) ++ encode_entries es in
      let Z : List ℕ = replicate (488 - 12 * n) 0 in
      let split : encode_page es tail ≡ front ++ (Z ++ tail) = encode_page-parts es tail ∙ simp append_assoc in
      let size : length front ≡ 4 + 12 * n = simp (length-append, length-le16, length-encode_entries) (omega arith) in
      let end : 4 + 12 * n + length Z ≡ 492 = simp length-replicate (omega (arith, good.few)) in
      let pad : ℕ = u16_at (encode_page es tail) 2 in
      and_both (eqb pad 0) _ (eq-eqb pad 0 (zeros-encode_page es tail))
      (ap₂ (λ (m : ℕ) (x : List ℕ). all_zero (part (4 + 12 * m) 492 x)) number split
      ∙ ap all_zero (part_at front Z tail (4 + 12 * n) 492 size end)
      ∙ replicate-all_zero (488 - 12 * n))

  pub page_ok-encode_page : page_ok (encode_page es tail) ≡ true
  unfolding number_ok numbers_ok order_ok
  page_ok-encode_page =
      parts-page_ok (encode_page es tail)
      (record {
        number = rw number (le-leb (length es) 40 good.few);
        rest = encode-rest_zero;
        numbers =
            and_both (all (λ (e : Entry). not (bad_pair e.pair)) (entries_of (encode_page es tail))) _
            (rw entries good.clean) (rw number encode-flags);
        order = rw entries good.order;
      })
