-- A line of a script read as a command (docs/RULES.md 8.1 and 8.2): "One line, one call", "at most 80 bytes", "Anything
-- else, an empty line too, is refusal 10".
use Rattle.std.specs.Prelude.{cond, Option, Some, None, List, [], ◌∷◌, ℕ, eqb, leb, length}
use Rattle.line.specs.declared.Fields.{Fields}
use Rattle.line.specs.declared.Command.{Command}
use Rattle.line.specs.Words.{words, number_of}

-- ---- the numbers of a line

-- one number more; no call has more than four
abbrev pub add : Fields → ℕ → Option Fields
add Fields.None n = Some (Fields.One n)
add (Fields.One a) n = Some (Fields.Two a n)
add (Fields.Two a b) n = Some (Fields.Three a b n)
add (Fields.Three a b c) n = Some (Fields.Four a b c n)
add (Fields.Four a b c d) n = None

abbrev pub add_number : Fields → Option ℕ → Option Fields
add_number f (Some n) = add f n
add_number f None = None

-- the numbers f, and then those of the words
abbrev pub fields_from : Fields → List (List ℕ) → Option Fields
fields_from f [] = Some f
fields_from f (w ∷ ws) = elim (add_number f (number_of w)) [ Some g ↦ fields_from g ws | None ↦ None ]

-- ---- the call

abbrev pub with_one : (ℕ → Command) → Fields → Option Command
with_one make Fields.None = None
with_one make (Fields.One a) = Some (make a)
with_one make (Fields.Two a b) = None
with_one make (Fields.Three a b c) = None
with_one make (Fields.Four a b c d) = None

abbrev pub with_three : (ℕ → ℕ → ℕ → Command) → Fields → Option Command
with_three make Fields.None = None
with_three make (Fields.One a) = None
with_three make (Fields.Two a b) = None
with_three make (Fields.Three a b c) = Some (make a b c)
with_three make (Fields.Four a b c d) = None

abbrev pub with_four : (ℕ → ℕ → ℕ → ℕ → Command) → Fields → Option Command
with_four make Fields.None = None
with_four make (Fields.One a) = None
with_four make (Fields.Two a b) = None
with_four make (Fields.Three a b c) = None
with_four make (Fields.Four a b c d) = Some (make a b c d)

-- by the first word's byte: f, +, -, ?, w
abbrev pub command_of : (kind : ℕ) → Fields → Option Command
command_of kind f =
    cond (eqb kind 102) (with_four Command.Format f) (cond (eqb kind 43) (with_three Command.Insert f)
    (cond (eqb kind 45) (with_three Command.Remove f) (cond (eqb kind 63) (with_one Command.Lookup f)
    (cond (eqb kind 119) (with_one Command.Work f) None))))

-- the same, if the words after it are numbers
abbrev pub command_with : (kind : ℕ) → Option Fields → Option Command
command_with kind (Some f) = command_of kind f
command_with kind None = None

abbrev pub command_from : List (List ℕ) → Option Command
command_from [] = None
command_from ([] ∷ ws) = None
command_from ((kind ∷ []) ∷ ws) = command_with kind (fields_from Fields.None ws)
command_from ((kind ∷ b ∷ bs) ∷ ws) = None

-- "at most 80 bytes before it"
abbrev pub max_line : ℕ
max_line = 80

unfoldable pub read_line : List ℕ → Option Command
read_line line = cond (leb (length line) max_line) (command_from (words line)) None
