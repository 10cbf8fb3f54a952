-- The numbers of a line that is read fit 32 bits.
use Rattle.std.specs.Prelude.{◌≡◌, refl, Bool, true, false, cond, Option, Some, None, List, [], ◌∷◌, ℕ, ◌+◌, ◌-◌, ◌*◌, ◌^◌, ◌<◌, eqb, leb, length}
use Rattle.std.proofs.Common.{arith, leb-true}
use Rattle.line.specs.declared.Fields.{Fields}
use Rattle.line.specs.declared.Command.{Command}
use Rattle.line.specs.Words.{words, is_digit, max_number, value_from, number_of}
use Rattle.line.specs.Command.{add_number, fields_from, with_one, with_three, with_four, command_of, command_with, command_from}
use Rattle.line.specs.Command.{max_line, read_line}

abbrev pub Fits32 : ℕ → Type 0
Fits32 n = n < 2 ^ 32

abbrev pub CommandFits : Option Command → Type 0
CommandFits (Some (Command.Format n fill number overwrite)) =
    Fits32 n × Fits32 fill × Fits32 number × Fits32 overwrite
CommandFits (Some (Command.Insert h b o)) = Fits32 h × Fits32 b × Fits32 o
CommandFits (Some (Command.Remove h b o)) = Fits32 h × Fits32 b × Fits32 o
CommandFits (Some (Command.Lookup h)) = Fits32 h
CommandFits (Some (Command.Work budget)) = Fits32 budget
CommandFits None = Unit {0}

-- ---- numbers

abbrev NumberFits : Option ℕ → Type 0
NumberFits (Some n) = Fits32 n
NumberFits None = Unit {0}

value-fits : (v : ℕ) (l : List ℕ) → NumberFits (value_from v l)
value-fits v [] = go (leb v max_number) refl
  where
    go : (t : Bool) → leb v max_number ≡ t → NumberFits (elim t [ true ↦ Some v | false ↦ None ])
    go true e = omega (arith, leb-true v max_number e)
    go false e = tt
value-fits v (b ∷ bs) = go (is_digit b) (value-fits (10 * v + (b - 48)) bs)
  where
    go : (t : Bool) → NumberFits (value_from (10 * v + (b - 48)) bs)
        → NumberFits (elim t [ true ↦ value_from (10 * v + (b - 48)) bs | false ↦ None ])
    go true h = h
    go false h = tt

number_fits : (w : List ℕ) → NumberFits (number_of w)
unfolding number_of
number_fits [] = tt
number_fits (b ∷ []) = value-fits 0 (b ∷ [])
number_fits (b ∷ c ∷ bs) = go (eqb b 48) (value-fits 0 (b ∷ c ∷ bs))
  where
    go : (t : Bool) → NumberFits (value_from 0 (b ∷ c ∷ bs))
        → NumberFits (elim t [ true ↦ None | false ↦ value_from 0 (b ∷ c ∷ bs) ])
    go true h = tt
    go false h = h

-- ---- the numbers of a line

abbrev FieldsFit : Fields → Type 0
FieldsFit Fields.None = Unit {0}
FieldsFit (Fields.One a) = Fits32 a
FieldsFit (Fields.Two a b) = Fits32 a × Fits32 b
FieldsFit (Fields.Three a b c) = Fits32 a × Fits32 b × Fits32 c
FieldsFit (Fields.Four a b c d) = Fits32 a × Fits32 b × Fits32 c × Fits32 d

abbrev ReadFit : Option Fields → Type 0
ReadFit (Some f) = FieldsFit f
ReadFit None = Unit {0}

add-fits : (f : Fields) (n : Option ℕ) → FieldsFit f → NumberFits n → ReadFit (add_number f n)
add-fits f None h k = tt
add-fits Fields.None (Some n) h k = k
add-fits (Fields.One a) (Some n) h k = (h, k)
add-fits (Fields.Two a b) (Some n) h k = (h.0, h.1, k)
add-fits (Fields.Three a b c) (Some n) h k = (h.0, h.1, h.2, k)
add-fits (Fields.Four a b c d) (Some n) h k = tt

fields_fit : (f : Fields) (ws : List (List ℕ)) → FieldsFit f → ReadFit (fields_from f ws)
fields_fit f [] h = h
fields_fit f (w ∷ ws) h =
    go (add_number f (number_of w)) (add-fits f (number_of w) h (number_fits w)) (λ g k. fields_fit g ws k)
  where
    go : (r : Option Fields) → ReadFit r → ((g : Fields) → FieldsFit g → ReadFit (fields_from g ws))
        → ReadFit (elim r [ Some g ↦ fields_from g ws | None ↦ None ])
    go (Some g) k ih = ih g k
    go None k ih = tt

-- ---- the command

cond-fits : (t : Bool) (a b : Option Command) → CommandFits a → CommandFits b → CommandFits (cond t a b)
cond-fits true a b h k = h
cond-fits false a b h k = k

one-fits : (make : ℕ → Command) → ((a : ℕ) → Fits32 a → CommandFits (Some (make a))) → (f : Fields) → FieldsFit f
    → CommandFits (with_one make f)
one-fits make k Fields.None h = tt
one-fits make k (Fields.One a) h = k a h
one-fits make k (Fields.Two a b) h = tt
one-fits make k (Fields.Three a b c) h = tt
one-fits make k (Fields.Four a b c d) h = tt

three-fits : (make : ℕ → ℕ → ℕ → Command)
    → ((a b c : ℕ) → Fits32 a × Fits32 b × Fits32 c → CommandFits (Some (make a b c))) → (f : Fields) → FieldsFit f
    → CommandFits (with_three make f)
three-fits make k Fields.None h = tt
three-fits make k (Fields.One a) h = tt
three-fits make k (Fields.Two a b) h = tt
three-fits make k (Fields.Three a b c) h = k a b c h
three-fits make k (Fields.Four a b c d) h = tt

four-fits : (make : ℕ → ℕ → ℕ → ℕ → Command)
    → ((a b c d : ℕ) → Fits32 a × Fits32 b × Fits32 c × Fits32 d → CommandFits (Some (make a b c d))) → (f : Fields)
    → FieldsFit f → CommandFits (with_four make f)
four-fits make k Fields.None h = tt
four-fits make k (Fields.One a) h = tt
four-fits make k (Fields.Two a b) h = tt
four-fits make k (Fields.Three a b c) h = tt
four-fits make k (Fields.Four a b c d) h = k a b c d h

command-fits : (kind : ℕ) (f : Fields) → FieldsFit f → CommandFits (command_of kind f)
command-fits kind f h =
    cond-fits (eqb kind 102) _ _ (four-fits Command.Format (λ a b c d k. k) f h)
    (cond-fits (eqb kind 43) _ _ (three-fits Command.Insert (λ a b c k. k) f h)
    (cond-fits (eqb kind 45) _ _ (three-fits Command.Remove (λ a b c k. k) f h)
    (cond-fits (eqb kind 63) _ _ (one-fits Command.Lookup (λ a k. k) f h)
    (cond-fits (eqb kind 119) _ _ (one-fits Command.Work (λ a k. k) f h) tt))))

words-fit : (ws : List (List ℕ)) → CommandFits (command_from ws)
words-fit [] = tt
words-fit ([] ∷ ws) = tt
words-fit ((kind ∷ []) ∷ ws) = go (fields_from Fields.None ws) (fields_fit Fields.None ws tt)
  where
    go : (r : Option Fields) → ReadFit r → CommandFits (command_with kind r)
    go (Some f) h = command-fits kind f h
    go None h = tt
words-fit ((kind ∷ b ∷ bs) ∷ ws) = tt

pub line-fits : (l : List ℕ) → CommandFits (read_line l)
unfolding read_line
line-fits l = cond-fits (leb (length l) max_line) (command_from (words l)) None (words-fit (words l)) tt
