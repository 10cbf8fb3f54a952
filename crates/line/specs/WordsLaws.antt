-- Words read from a place on, and digits one after the other.
use Rattle.std.specs.Prelude.{◌≡◌, refl, Bool, true, false, cond, Option, Some, None, List, [], ◌∷◌, ◌++◌, ℕ, suc, ◌+◌, ◌-◌, ◌*◌, ◌≤◌, ◌<◌, eqb, length, drop, get_or, take}
use Rattle.std.proofs.Common.{sym, ap, ◌∙◌, append_assoc, append-nil, add-one, arith, le-leb, eq-eqb, ne_eqb, drop_of_length-le, drop-cons}
use Rattle.std.proofs.lemmas.Bool.{lt-leb}
use Rattle.std.specs.List.{slice_split, onto_first}
use Rattle.line.specs.Words.{parts_from, parts, span, is_digit, max_number, bounded, value_from, number_of}

-- ---- the first separator

module _ (sep : ℕ) where
  pub span-le : (l : List ℕ) → span sep l ≤ length l
  span-le [] = omega arith
  span-le (b ∷ bs) = go (eqb b sep) (span-le bs)
    where
      go : (t : Bool) → span sep bs ≤ length bs
          → ◌≤◌ (elim t [ true ↦ 0 | false ↦ suc (span sep bs) ]) (suc (length bs))
      go true h = omega arith
      go false h = omega arith

  -- read from i on
  pub span-end : (l : List ℕ) (i : ℕ) → length l ≤ i → span sep (drop i l) ≡ 0
  span-end l i h = ap (span sep) (drop_of_length-le l h)

  pub span-hit : (l : List ℕ) (i : ℕ) → i < length l → get_or l i 0 ≡ sep → span sep (drop i l) ≡ 0
  span-hit l i h e = rw (drop-cons l i 0 h, span, eq-eqb (get_or l i 0) sep e)

  pub span-miss : (l : List ℕ) (i : ℕ) → i < length l → (get_or l i 0 ≡ sep → ⊥) → span sep (drop i l)
      ≡ suc (span sep (drop (i + 1) l))
  span-miss l i h e = rw (add-one i, drop-cons l i 0 h, span, ne_eqb (get_or l i 0) sep e)

  -- the first part, and what follows it
  parts_from-last : (acc l : List ℕ) → length l ≤ span sep l → parts_from sep acc l ≡ (acc ++ l) ∷ []
  parts_from-last acc [] h = ap (λ (x : List ℕ). x ∷ []) (sym (append-nil acc))
  parts_from-last acc (b ∷ bs) h = go (eqb b sep) h (parts_from-last (acc ++ (b ∷ [])) bs)
    where
      go : (t : Bool) → suc (length bs) ≤ (elim t [ true ↦ 0 | false ↦ suc (span sep bs) ])
          → (length bs ≤ span sep bs → parts_from sep (acc ++ (b ∷ [])) bs ≡ (acc ++ (b ∷ []) ++ bs) ∷ [])
          → Path (List (List ℕ)) (elim t [
            | true ↦ acc ∷ parts_from sep [] bs
            | false ↦ parts_from sep
                (acc ++ (b ∷ [])) bs
          ])
          ((acc ++ (b ∷ bs)) ∷ [])
      go true h ih = absurd (omega arith)
      go false h ih = ih (omega arith) ∙ ap (λ (x : List ℕ). x ∷ []) (append_assoc acc (b ∷ []) bs)

  parts_from-more : (acc l : List ℕ) → span sep l < length l
      → parts_from sep acc l ≡ (acc ++ take (span sep l) l) ∷ parts sep (drop (suc (span sep l)) l)
  parts_from-more acc [] h = absurd (omega arith)
  parts_from-more acc (b ∷ bs) h = go (eqb b sep) h (parts_from-more (acc ++ (b ∷ [])) bs)
    where
      at : Bool → ℕ
      at t = elim t [ true ↦ 0 | false ↦ suc (span sep bs) ]

      go : (t : Bool) → at t < suc (length bs)
          → (span sep bs < length bs
          → parts_from sep (acc ++ (b ∷ [])) bs
          ≡ (acc ++ (b ∷ []) ++ take (span sep bs) bs) ∷ parts sep (drop (suc (span sep bs)) bs))
          → Path (List (List ℕ)) (elim t [
            | true ↦ acc ∷ parts_from sep [] bs
            | false ↦ parts_from sep
                (acc ++ (b ∷ [])) bs
          ])
          ((acc ++ take (at t) (b ∷ bs)) ∷ parts sep (drop (at t) bs))
      go true h ih = ap (λ (x : List ℕ). x ∷ parts_from sep [] bs) (sym (append-nil acc))
      go false h ih =
          ih (omega arith)
          ∙ ap (λ (x : List ℕ). x ∷ parts sep (drop (suc (span sep bs)) bs))
          (append_assoc acc (b ∷ []) (take (span sep bs) bs))

  pub parts_last : (l : List ℕ) → length l ≤ span sep l → parts sep l ≡ l ∷ []
  parts_last l h = parts_from-last [] l h

  pub parts_more : (l : List ℕ) → span sep l < length l
      → parts sep l ≡ take (span sep l) l ∷ parts sep (drop (suc (span sep l)) l)
  parts_more l h = parts_from-more [] l h

-- ---- the parts that std's split gives

abbrev onto : List ℕ → List (List ℕ) → List (List ℕ)
onto part [] = part ∷ []
onto part (x ∷ xs) = (part ++ x) ∷ xs

module _ (sep : ℕ) where
  abbrev split : List ℕ → List (List ℕ)
  split bs = slice_split (λ b. eqb b sep) bs

  split-some : (bs : List ℕ) → onto [] (split bs) ≡ split bs
  split-some [] = refl
  split-some (b ∷ bs) = go (eqb b sep) (split bs)
    where
      go : (t : Bool) (l : List (List ℕ)) → onto [] (cond t ([] ∷ l) (onto_first b l)) ≡ cond t ([] ∷ l) (onto_first b l)
      go true l = refl
      go false [] = refl
      go false (x ∷ xs) = refl

  parts-onto : (part bs : List ℕ) → parts_from sep part bs ≡ onto part (split bs)
  parts-onto part [] = ap (λ (x : List ℕ). x ∷ []) (sym (append-nil part))
  parts-onto part (b ∷ bs) = go (eqb b sep) (parts-onto [] bs) (parts-onto (part ++ (b ∷ [])) bs)
    where
      first : (l : List (List ℕ)) → onto (part ++ (b ∷ [])) l ≡ onto part (onto_first b l)
      first [] = refl
      first (x ∷ xs) = ap (λ (y : List ℕ). y ∷ xs) (append_assoc part (b ∷ []) x)

      go : (t : Bool) → parts_from sep [] bs ≡ onto [] (split bs)
          → parts_from sep (part ++ (b ∷ [])) bs ≡ onto (part ++ (b ∷ [])) (split bs)
          → Path (List (List ℕ)) (elim t [
            | true ↦ part ∷ parts_from sep [] bs
            | false ↦ parts_from sep
                (part ++ (b ∷ [])) bs
          ])
          (onto part (cond t ([] ∷ split bs) (onto_first b (split bs))))
      go true e f =
          ap (λ (x : List (List ℕ)). part ∷ x) (e ∙ split-some bs)
          ∙ ap (λ (x : List ℕ). x ∷ split bs) (sym (append-nil part))
      go false e f = f ∙ first (split bs)

  pub parts-split : (bs : List ℕ) → slice_split (λ b. eqb b sep) bs ≡ parts sep bs
  parts-split bs = sym (parts-onto [] bs ∙ split-some bs)

-- ---- digits

pub bounded-fits : (v : ℕ) → v ≤ max_number → bounded v ≡ Some v
bounded-fits v h = rw (bounded, le-leb v max_number h)

pub bounded-large : (v : ℕ) → max_number < v → bounded v ≡ None
bounded-large v h = rw (bounded, lt-leb v max_number h)

-- no further digit makes a value smaller
pub value-large : (v : ℕ) (l : List ℕ) → max_number < v → value_from v l ≡ None
value-large v [] h = bounded-large v h
value-large v (b ∷ bs) h = go (is_digit b) (value-large (10 * v + (b - 48)) bs (omega arith))
  where
    go : (t : Bool) → value_from (10 * v + (b - 48)) bs ≡ None
        → Path (Option ℕ) (elim t [ true ↦ value_from (10 * v + (b - 48)) bs | false ↦ None ]) None
    go true e = e
    go false e = refl

module _ (v : ℕ) (l : List ℕ) (i : ℕ) where
  pub value-end : length l ≤ i → v ≤ max_number → value_from v (drop i l) ≡ Some v
  value-end h m = ap (value_from v) (drop_of_length-le l h) ∙ bounded-fits v m

  pub value-digit : i < length l → 48 ≤ get_or l i 0 → get_or l i 0 ≤ 57
      → value_from v (drop i l) ≡ value_from (10 * v + (get_or l i 0 - 48)) (drop (i + 1) l)
  value-digit h a e = rw (add-one i, drop-cons l i 0 h, value_from, le-leb 48 (get_or l i 0) a, le-leb (get_or l i 0) 57 e)

  pub value_low : i < length l → get_or l i 0 < 48 → value_from v (drop i l) ≡ None
  value_low h a = rw (drop-cons l i 0 h, value_from, lt-leb 48 (get_or l i 0) a)

  pub value-high : i < length l → 57 < get_or l i 0 → value_from v (drop i l) ≡ None
  value-high h a = rw (drop-cons l i 0 h, value_from, le-leb 48 (get_or l i 0) (omega arith), lt-leb (get_or l i 0) 57 a)

  -- a digit takes the value past the largest number
  pub value_over : i < length l → 48 ≤ get_or l i 0 → get_or l i 0 ≤ 57
      → max_number < 10 * v + (get_or l i 0 - 48) → value_from v (drop i l) ≡ None
  value_over h a b m = value-digit h a b ∙ value-large (10 * v + (get_or l i 0 - 48)) (drop (i + 1) l) m

-- ---- a number, by the word's length and first byte

pub number-empty : (l : List ℕ) → length l < 1 → number_of l ≡ None
unfolding number_of
number-empty [] h = refl
number-empty (b ∷ bs) h = absurd (omega arith)

pub number-zero : (l : List ℕ) → 2 ≤ length l → get_or l 0 0 ≡ 48 → number_of l ≡ None
unfolding number_of
number-zero [] h e = refl
number-zero (b ∷ []) h e = absurd (omega arith)
number-zero (b ∷ c ∷ bs) h e = rw (number_of, eq-eqb b 48 e)

pub number-one : (l : List ℕ) → 1 ≤ length l → length l < 2 → number_of l ≡ value_from 0 l
unfolding number_of
number-one [] h g = absurd (omega arith)
number-one (b ∷ []) h g = refl
number-one (b ∷ c ∷ bs) h g = absurd (omega arith)

pub number_more : (l : List ℕ) → 2 ≤ length l → (get_or l 0 0 ≡ 48 → ⊥) → number_of l ≡ value_from 0 l
unfolding number_of
number_more [] h e = absurd (omega arith)
number_more (b ∷ []) h e = absurd (omega arith)
number_more (b ∷ c ∷ bs) h e = rw (number_of, ne_eqb b 48 e)
