-- A line with a comma in it, as `+ 0,5 7 1`, is no call.
use Rattle.std.specs.Prelude.{◌≡◌, refl, Bool, true, false, cond, ◌||◌, Option, Some, None, List, [], ◌∷◌, ◌++◌, ℕ, ◌+◌, ◌-◌, ◌*◌, eqb, leb, length}
use Rattle.std.proofs.Common.{sym, ap, ◌∙◌, arith}
use Rattle.lists.specs.Lists.{any}
use Rattle.lists.specs.ListsLaws.{eqb-eq}
use Rattle.line.specs.declared.Fields.{Fields}
use Rattle.line.specs.declared.Command.{Command}
use Rattle.line.specs.Words.{parts_from, comma, words, is_digit, value_from, number_of}
use Rattle.line.specs.Command.{add_number, fields_from, command_with, command_from, max_line, read_line}
use Rattle.line.specs.CommandLaws.{cond_same, no-call}

none : comma [] ≡ true → ⊥
none h = let z : ◌≡◌ {A = ℕ} 0 1 = cc in omega arith

value-comma : (v : ℕ) (bs : List ℕ) → comma bs ≡ true → value_from v bs ≡ None
value-comma v [] h = absurd (none h)
value-comma v (b ∷ bs) h = go (eqb 44 b) refl h (value-comma (10 * v + (b - 48)) bs)
  where
    digit : (d : Bool) → value_from (10 * v + (b - 48)) bs ≡ None
        → Path (Option ℕ) (elim d [ true ↦ value_from (10 * v + (b - 48)) bs | false ↦ None ]) None
    digit true q = q
    digit false q = refl

    go : (t : Bool) → eqb 44 b ≡ t → t || comma bs ≡ true
        → (comma bs ≡ true → value_from (10 * v + (b - 48)) bs ≡ None)
        → value_from v (b ∷ bs) ≡ None
    go true e q ih = ap (λ (c : ℕ). value_from v (c ∷ bs)) (sym (eqb-eq 44 b e))
    go false e q ih = digit (is_digit b) (ih q)

number-comma : (w : List ℕ) → comma w ≡ true → number_of w ≡ None
unfolding number_of
number-comma [] h = refl
number-comma (b ∷ []) h = value-comma 0 (b ∷ []) h
number-comma (b ∷ c ∷ bs) h = go (eqb b 48)
  where
    go : (t : Bool) → Path (Option ℕ) (elim t [ true ↦ None | false ↦ value_from 0 (b ∷ c ∷ bs) ]) None
    go true = refl
    go false = value-comma 0 (b ∷ c ∷ bs) h

fields-comma : (f : Fields) (ws : List (List ℕ)) → any comma ws ≡ true → fields_from f ws ≡ None
fields-comma f [] h = let z : ◌≡◌ {A = ℕ} 0 1 = cc in absurd (omega arith)
fields-comma f (w ∷ ws) h = go (comma w) refl h (λ g q. fields-comma g ws q)
  where
    rest : (r : Option Fields) → ((g : Fields) → fields_from g ws ≡ None)
        → Path (Option Fields) (elim r [ Some g ↦ fields_from g ws | None ↦ None ]) None
    rest (Some g) ih = ih g
    rest None ih = refl

    go : (t : Bool) → comma w ≡ t → t || any comma ws ≡ true
        → ((g : Fields) → any comma ws ≡ true → fields_from g ws ≡ None) → fields_from f (w ∷ ws) ≡ None
    go true e q ih =
        ap (λ (n : Option ℕ). elim (add_number f n) [ Some g ↦ fields_from g ws | None ↦ None ]) (number-comma w e)
    go false e q ih = rest (add_number f (number_of w)) (λ g. ih g q)

-- ---- the words of a line

comma-append : (xs ys : List ℕ) → comma (xs ++ ys) ≡ comma xs || comma ys
comma-append [] ys = refl
comma-append (x ∷ xs) ys = go (eqb 44 x) (comma-append xs ys)
  where
    go : (t : Bool) → comma (xs ++ ys) ≡ comma xs || comma ys → t || comma (xs ++ ys) ≡ (t || comma xs) || comma ys
    go true e = refl
    go false e = e

or_left : (a b : Bool) → a ≡ true → a || b ≡ true
or_left true b e = refl
or_left false b e = let z : ◌≡◌ {A = ℕ} 0 1 = cc in absurd (omega arith)

or_right : (a b : Bool) → b ≡ true → a || b ≡ true
or_right true b e = refl
or_right false b e = e

or_cases : (P : Type 0) (a b : Bool) → a || b ≡ true → (a ≡ true → P) → (b ≡ true → P) → P
or_cases P true b h f g = f refl
or_cases P false b h f g = g h

words-comma : (part bs : List ℕ) → comma part || comma bs ≡ true → any comma (parts_from 32 part bs) ≡ true
words-comma part [] h =
    or_cases _ (comma part) false h (λ e. or_left (comma part) false e) (λ e. or_right (comma part) false e)
words-comma part (b ∷ bs) h = go (eqb b 32) refl (words-comma [] bs) (words-comma (part ++ (b ∷ [])) bs)
  where
    own : comma (part ++ (b ∷ [])) ≡ comma part || (eqb 44 b || false)
    own = comma-append part (b ∷ [])

    grown : (p q r : Bool) → p || (q || r) ≡ true → (p || (q || false)) || r ≡ true
    grown true q r h = refl
    grown false true r h = refl
    grown false false r h = h

    space : eqb b 32 ≡ true → eqb 44 b ≡ false
    space e = ap (eqb 44) (eqb-eq b 32 e)

    go : (t : Bool) → eqb b 32 ≡ t → (comma bs ≡ true → any comma (parts_from 32 [] bs) ≡ true)
        → (comma (part ++ (b ∷ [])) || comma bs ≡ true → any comma (parts_from 32 (part ++ (b ∷ [])) bs) ≡ true)
        → any comma (elim t [ true ↦ part ∷ parts_from 32 [] bs | false ↦ parts_from 32 (part ++ (b ∷ [])) bs ]) ≡ true
    go true e new old =
        or_cases _ (comma part) (comma bs)
        (ap (λ (q : Bool). comma part || (q || comma bs)) (sym (space e)) ∙ h)
        (λ p. or_left (comma part) (any comma (parts_from 32 [] bs)) p)
        (λ q. or_right (comma part) (any comma (parts_from 32 [] bs)) (new q))
    go false e new old =
        old
        (ap (λ (q : Bool). q || comma bs) own ∙ grown (comma part) (eqb 44 b) (comma bs) h)

-- ---- the line

command-comma : (ws : List (List ℕ)) → any comma ws ≡ true → command_from ws ≡ None
command-comma [] h = refl
command-comma ([] ∷ ws) h = refl
command-comma ((kind ∷ []) ∷ ws) h =
    or_cases _ (comma (kind ∷ [])) (any comma ws) h
    (λ e. ap (λ (k : ℕ). command_with k (fields_from Fields.None ws)) (sym (own e)) ∙ no-call 44 (λ f. refl) (fields_from Fields.None ws))
    (λ e. ap (command_with kind) (fields-comma Fields.None ws e))
  where
    own : eqb 44 kind || false ≡ true → 44 ≡ kind
    own e = or_cases _ (eqb 44 kind) false e (λ q. eqb-eq 44 kind q) (λ q. absurd (none q))
command-comma ((kind ∷ b ∷ bs) ∷ ws) h = refl

pub comma-unreadable : (l : List ℕ) → comma l ≡ true → read_line l ≡ None
unfolding read_line
comma-unreadable l h =
    ap (λ (c : Option Command). cond (leb (length l) max_line) c None)
    (command-comma (words l) (words-comma [] l h))
    ∙ cond_same (leb (length l) max_line) None
