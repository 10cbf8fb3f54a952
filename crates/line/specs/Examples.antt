-- Lines that are calls, and lines that are not, read by the definition.
use Rattle.std.specs.Prelude.{◌≡◌, refl, Option, Some, None, List, [], ◌∷◌, map, ℕ}
use Rattle.line.specs.declared.Command.{Command}
use Rattle.line.specs.Words.{number_of}
use Rattle.line.specs.Command.{read_line}

-- A line and what it is read as.
record Row : Type 0 where
  line : List ℕ
  command : Option Command

row : List ℕ → Option Command → Row
row l c = record { line = l; command = c }

table : List Row
table =
    -- `f 16 10 7 0`
    row (102 ∷ 32 ∷ 49 ∷ 54 ∷ 32 ∷ 49 ∷ 48 ∷ 32 ∷ 55 ∷ 32 ∷ 48 ∷ []) (Some (Command.Format 16 10 7 0)) ∷
    -- `+ 5 7 1`
    row (43 ∷ 32 ∷ 53 ∷ 32 ∷ 55 ∷ 32 ∷ 49 ∷ []) (Some (Command.Insert 5 7 1)) ∷
    -- `- 5 7 1`
    row (45 ∷ 32 ∷ 53 ∷ 32 ∷ 55 ∷ 32 ∷ 49 ∷ []) (Some (Command.Remove 5 7 1)) ∷
    -- `? 0`
    row (63 ∷ 32 ∷ 48 ∷ []) (Some (Command.Lookup 0)) ∷
    -- `w 4294967295`
    row (119 ∷ 32 ∷ 52 ∷ 50 ∷ 57 ∷ 52 ∷ 57 ∷ 54 ∷ 55 ∷ 50 ∷ 57 ∷ 53 ∷ []) (Some (Command.Work 4294967295)) ∷
    -- `+ 0,5 7 1`
    row (43 ∷ 32 ∷ 48 ∷ 44 ∷ 53 ∷ 32 ∷ 55 ∷ 32 ∷ 49 ∷ []) None ∷
    -- `w 4294967296`
    row (119 ∷ 32 ∷ 52 ∷ 50 ∷ 57 ∷ 52 ∷ 57 ∷ 54 ∷ 55 ∷ 50 ∷ 57 ∷ 54 ∷ []) None ∷
    -- `? 05`
    row (63 ∷ 32 ∷ 48 ∷ 53 ∷ []) None ∷
    -- `? +5`
    row (63 ∷ 32 ∷ 43 ∷ 53 ∷ []) None ∷
    -- `?  5`
    row (63 ∷ 32 ∷ 32 ∷ 53 ∷ []) None ∷
    -- `? 5 `
    row (63 ∷ 32 ∷ 53 ∷ 32 ∷ []) None ∷
    -- ` ? 5`
    row (32 ∷ 63 ∷ 32 ∷ 53 ∷ []) None ∷
    -- an empty line
    row ([]) None ∷
    -- `w`
    row (119 ∷ []) None ∷
    -- `? 5 6`
    row (63 ∷ 32 ∷ 53 ∷ 32 ∷ 54 ∷ []) None ∷
    -- `f 16 10 7`
    row (102 ∷ 32 ∷ 49 ∷ 54 ∷ 32 ∷ 49 ∷ 48 ∷ 32 ∷ 55 ∷ []) None ∷
    -- `f 16 10 7 0 1`
    row (102 ∷ 32 ∷ 49 ∷ 54 ∷ 32 ∷ 49 ∷ 48 ∷ 32 ∷ 55 ∷ 32 ∷ 48 ∷ 32 ∷ 49 ∷ []) None ∷
    -- `F 16 10 7 0`
    row (70 ∷ 32 ∷ 49 ∷ 54 ∷ 32 ∷ 49 ∷ 48 ∷ 32 ∷ 55 ∷ 32 ∷ 48 ∷ []) None ∷
    -- `?5`
    row (63 ∷ 53 ∷ []) None ∷
    []

lines-read : map (λ (r : Row). read_line r.line) table ≡ map (λ (r : Row). r.command) table
unfolding row table read_line number_of
lines-read = refl
