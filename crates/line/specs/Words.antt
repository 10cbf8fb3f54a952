-- docs/RULES.md 8.2: the parts of a list of bytes between separators, and a word read as a number.
use Rattle.std.specs.Prelude.{Bool, true, false, ◌&&◌, Option, Some, None, List, [], ◌∷◌, ◌++◌, ℕ, suc, ◌+◌, ◌-◌, ◌*◌, eqb, leb}
use Rattle.lists.specs.Lists.{any}

-- the parts of bs between the bytes sep, of which the first begins with `part`
abbrev pub parts_from : (sep : ℕ) → (part bs : List ℕ) → List (List ℕ)
parts_from sep part [] = part ∷ []
parts_from sep part (b ∷ bs) =
    elim (eqb b sep) [ true ↦ part ∷ parts_from sep [] bs | false ↦ parts_from sep (part ++ (b ∷ [])) bs ]

abbrev pub parts : (sep : ℕ) → List ℕ → List (List ℕ)
parts sep bs = parts_from sep [] bs

-- the number of bytes before the first sep
abbrev pub span : (sep : ℕ) → List ℕ → ℕ
span sep [] = 0
span sep (b ∷ bs) = elim (eqb b sep) [ true ↦ 0 | false ↦ suc (span sep bs) ]

-- a comma among bytes
abbrev pub comma : List ℕ → Bool
comma bs = any (eqb 44) bs

-- "Single spaces": two in a row have an empty word between them, and an empty word is no number
abbrev pub words : List ℕ → List (List ℕ)
words line = parts 32 line

-- "decimal digits"
abbrev pub is_digit : ℕ → Bool
is_digit b = leb 48 b && leb b 57

-- "at most 4294967295"
abbrev pub max_number : ℕ
max_number = 4294967295

abbrev pub bounded : ℕ → Option ℕ
bounded v = elim (leb v max_number) [ true ↦ Some v | false ↦ None ]

-- the value of digits, after those whose value is v
abbrev pub value_from : ℕ → List ℕ → Option ℕ
value_from v [] = bounded v
value_from v (b ∷ bs) = elim (is_digit b) [ true ↦ value_from (10 * v + (b - 48)) bs | false ↦ None ]

-- "no sign, no leading zero but 0 itself"
unfoldable pub number_of : List ℕ → Option ℕ
number_of [] = None
number_of (b ∷ []) = value_from 0 (b ∷ [])
number_of (b ∷ c ∷ bs) = elim (eqb b 48) [ true ↦ None | false ↦ value_from 0 (b ∷ c ∷ bs) ]
