-- A line read by its first two bytes and the numbers after them.
use Rattle.std.specs.Prelude.{◌≡◌, refl, Bool, true, false, cond, Option, Some, None, List, [], ◌∷◌, ◌++◌, ℕ, ◌+◌, ◌≤◌, ◌<◌, eqb, length, drop, get_or, suc, ◌-◌, ltb, take}
use Rattle.std.proofs.Common.{sym, ap, ◌∙◌, arith, le-leb, eq-eqb, ne_eqb, eqb-true, ltb-true, ltb-false, length-drop, take_all, drop-drop}
use Rattle.std.proofs.lemmas.Bool.{lt-leb}
use Rattle.std.proofs.lemmas.List.{at_drop_more}
use Rattle.line.specs.declared.Fields.{Fields}
use Rattle.line.specs.declared.Command.{Command}
use Rattle.line.specs.Words.{parts_from, words, number_of, span}
use Rattle.line.specs.WordsLaws.{span-le, parts_last, parts_more}
use Rattle.line.specs.Command.{fields_from, add_number, command_of, command_with, command_from, max_line, read_line}

pub cond_same : (t : Bool) (c : Option Command) → cond t c c ≡ c
cond_same true c = refl
cond_same false c = refl

-- a byte that names no call
pub no-call : (kind : ℕ) → ((f : Fields) → command_of kind f ≡ None) → (r : Option Fields) → command_with kind r ≡ None
no-call kind h (Some f) = h f
no-call kind h None = refl

-- a line with no number is no call
command-none : (kind : ℕ) → command_of kind Fields.None ≡ None
command-none kind = simp cond_same

-- a first word of two bytes and more is no call
command-long : (x y : ℕ) (zs bs : List ℕ) → command_from (parts_from 32 (x ∷ y ∷ zs) bs) ≡ None
command-long x y zs [] = refl
command-long x y zs (b ∷ bs) = go (eqb b 32) (command-long x y (zs ++ (b ∷ [])) bs)
  where
    go : (t : Bool) → command_from (parts_from 32 (x ∷ y ∷ (zs ++ (b ∷ []))) bs) ≡ None
        → command_from (elim t [
          | true ↦ (x ∷ y ∷ zs) ∷ parts_from 32 [] bs
          | false ↦ parts_from 32
              (x ∷ y ∷ (zs ++ (b ∷ []))) bs
        ])
        ≡ None
    go true e = refl
    go false e = e

-- ---- the line's length, second byte and the rest

short : (l : List ℕ) → length l < 2 → command_from (words l) ≡ None
short [] h = refl
short (b ∷ []) h = go (eqb b 32)
  where
    go : (t : Bool)
        → command_from (elim t [ true ↦ [] ∷ [] ∷ [] | false ↦ (b ∷ []) ∷ [] ]) ≡ None
    go true = refl
    go false = command-none b
short (b ∷ c ∷ bs) h = absurd (omega arith)

pub line-short : (l : List ℕ) → length l < 2 → read_line l ≡ None
unfolding read_line
line-short l h = rw (le-leb (length l) max_line (omega arith)) (short l h)

pub line-long : (l : List ℕ) → max_line < length l → read_line l ≡ None
unfolding read_line
line-long l h = rw (lt-leb (length l) max_line h)

pub line-no-space : (l : List ℕ) → 2 ≤ length l → length l ≤ max_line → (get_or l 1 0 ≡ 32 → ⊥) → read_line l
    ≡ None
unfolding read_line
line-no-space [] h m e = absurd (omega arith)
line-no-space (b ∷ []) h m e = absurd (omega arith)
line-no-space (b ∷ c ∷ bs) h m e =
    rw (le-leb (length (b ∷ c ∷ bs)) max_line m) (go (eqb b 32) (eqb c 32) (ne_eqb c 32 e))
  where
    at : List ℕ → Bool → List (List ℕ)
    at part u = elim u [ true ↦ part ∷ parts_from 32 [] bs | false ↦ parts_from 32 (part ++ (c ∷ [])) bs ]

    go : (t u : Bool) → u ≡ false
        → command_from (elim t [ true ↦ [] ∷ at [] u | false ↦ at (b ∷ []) u ]) ≡ None
    go true u q = refl
    go false u q = rw q (command-long b c [] bs)

pub line-call : (l : List ℕ) → 2 ≤ length l → length l ≤ max_line → get_or l 1 0 ≡ 32
    → read_line l ≡ command_with (get_or l 0 0) (fields_from Fields.None (words (drop 2 l)))
unfolding read_line
line-call [] h m e = absurd (omega arith)
line-call (b ∷ []) h m e = absurd (omega arith)
line-call (b ∷ c ∷ bs) h m e =
    rw (le-leb (length (b ∷ c ∷ bs)) max_line m) (go (eqb b 32) (eqb c 32) refl (eq-eqb c 32 e))
  where
    at : List ℕ → Bool → List (List ℕ)
    at part u = elim u [ true ↦ part ∷ parts_from 32 [] bs | false ↦ parts_from 32 (part ++ (c ∷ [])) bs ]

    go : (t u : Bool) → eqb b 32 ≡ t → u ≡ true
        → command_from (elim t [ true ↦ [] ∷ at [] u | false ↦ at (b ∷ []) u ])
        ≡ command_with b (fields_from Fields.None (words bs))
    go true u q r = rw (eqb-true b 32 q) (sym (no-call 32 (λ f. refl) (fields_from Fields.None (words bs))))
    go false u q r = rw r

-- ---- word after word

-- from the i-th word on
pub fields-turn : (f : Fields) (ws : List (List ℕ)) (i : ℕ) (w : List ℕ) → i < length ws → w ≡ get_or ws i w
    → fields_from f (drop i ws)
    ≡ elim (add_number f (number_of w)) [ Some g ↦ fields_from g (drop (i + 1) ws) | None ↦ None ]
fields-turn f ws i w h e =
    at_drop_more (fields_from f) ws i w h
    ∙ ap
    (λ (x : List ℕ).
    elim (add_number f (number_of x)) [ Some g ↦ fields_from g (drop (i + 1) ws) | None ↦ None ])
    (sym e)

-- after a word that is no number the line stays wrong
pub fields-wrong : (f : Fields) (w : List ℕ) (ws : List (List ℕ)) → add_number f (number_of w) ≡ None
    → fields_from f (w ∷ ws) ≡ None
fields-wrong f w ws e = ap (λ (o : Option Fields). elim o [ Some g ↦ fields_from g ws | None ↦ None ]) e

-- ---- the word from one place of a line to another, and the numbers from there on

pub record Word (line : List ℕ) (at end : ℕ) : Type 0 where
  pub from : at ≤ end
  pub upto : end ≤ length line
  pub spans : end - at ≡ span 32 (drop at line)

pub word_at : (line : List ℕ) (at end : ℕ) → at ≤ length line → end ≡ at + span 32 (drop at line) → Word line at end
word_at line at end h e =
    let short : span 32 (drop at line) ≤ length line - at = rw length-drop at (span-le 32 (drop at line)) in
    record { from = omega arith; upto = omega arith; spans = omega arith }

module _ {line : List ℕ} {at end : ℕ} (w : Word line at end) (f : Fields) where
  -- the numbers f and that of the word
  abbrev added : Option Fields
  added = add_number f (number_of (take (end - at) (drop at line)))

  pub fields-last : end ≡ length line → fields_from f (words (drop at line))
      ≡ add_number f (number_of (take (end - at) (drop at line)))
  fields-last e =
      let all : length (drop at line) ≤ end - at = rw length-drop (omega arith) in
      let none : length (drop at line) ≤ span 32 (drop at line) = omega (arith, w.spans) in
      rw (parts_last 32 (drop at line) none, take_all (end - at) (drop at line) all)
      (go (add_number f (number_of (drop at line))))
    where
      go : (o : Option Fields) → Path (Option Fields) (elim o [ Some g ↦ Some g | None ↦ None ]) o
      go (Some g) = refl
      go None = refl

  pub fields-more : end < length line
      → fields_from f (words (drop at line))
      ≡ elim (add_number f (number_of (take (end - at) (drop at line)))) [
        | Some g ↦ fields_from g (words (drop (end + 1) line))
        | None ↦ None
      ]
  fields-more h =
      let some : span 32 (drop at line) < length (drop at line) = rw length-drop (omega (arith, w.from, w.spans)) in
      let next : at + suc (end - at) ≡ end + 1 = omega (arith, w.from) in
      rw (parts_more 32 (drop at line) some, ← w.spans, drop-drop (suc (end - at)) at line)
      (ap (λ (k : ℕ). elim added [ Some g ↦ fields_from g (words (drop k line)) | None ↦ None ]) next)

  pub fields-stop : number_of (take (end - at) (drop at line)) ≡ None → fields_from f (words (drop at line)) ≡ None
  fields-stop e = go (ltb end (length line)) refl
    where
      go : (t : Bool) → ltb end (length line) ≡ t → fields_from f (words (drop at line)) ≡ None
      go true q = fields-more (ltb-true end (length line) q) ∙ rw e
      go false q = fields-last (omega (arith, ltb-false end (length line) q, w.upto)) ∙ rw e
