-- Small scripts, run by the definition. In the comments ↵ is LF.
use Rattle.std.specs.Prelude.{◌≡◌, ℕ, List, [], ◌∷◌, ◌++◌, map, refl}
use Rattle.lists.specs.Block.{blocks}
use Rattle.line.specs.Words.{number_of}
use Rattle.line.specs.Command.{read_line}
use Rattle.text.specs.Digits.{digits}
use Rattle.text.specs.Text.{store_text, refused_text}
use Rattle.outcomes.specs.Outcomes.{tested, store_in_use, format_replacing, insert_outcome, lookup_outcome}
use Rattle.outcomes.specs.Outcomes.{work_outcome}
use Rattle.image.specs.Rules.{length_ok}
use Rattle.interpreter.specs.Script.{run_command, script_output}

-- A script and what it writes.
record Row : Type 0 where
  script : List ℕ
  output : List ℕ

row : List ℕ → List ℕ → Row
row s o = record { script = s; output = o }

table : List Row
table =
    -- `? 5↵↵w 1`
    row (63 ∷ 32 ∷ 53 ∷ 10 ∷ 10 ∷ 119 ∷ 32 ∷ 49 ∷ [])
    (refused_text 1 1 ++ refused_text 2 10 ++ refused_text 3 1) ∷
    -- `f 3 10 0 2↵f 4 41 1 0↵f 129 0 2 0↵f 129 40 0 1↵`
    row (102 ∷ 32 ∷ 51 ∷ 32 ∷ 49 ∷ 48 ∷ 32 ∷ 48 ∷ 32 ∷ 50 ∷ 10 ∷ 102 ∷ 32 ∷ 52 ∷ 32 ∷ 52 ∷ 49 ∷ 32 ∷ 49 ∷ 32 ∷ 48 ∷
    10 ∷ 102 ∷ 32 ∷ 49 ∷ 50 ∷ 57 ∷ 32 ∷ 48 ∷ 32 ∷ 50 ∷ 32 ∷ 48 ∷ 10 ∷ 102 ∷ 32 ∷ 49 ∷ 50 ∷ 57 ∷ 32 ∷ 52 ∷ 48 ∷ 32 ∷
    48 ∷ 32 ∷ 49 ∷ 10 ∷ [])
    (refused_text 1 1 ++ refused_text 2 2 ++ refused_text 3 1 ++ refused_text 4 1) ∷
    -- `f 4 40 4294967295 0↵f 5 0 0 1↵f 5 1 0 2↵`
    row (102 ∷ 32 ∷ 52 ∷ 32 ∷ 52 ∷ 48 ∷ 32 ∷ 52 ∷ 50 ∷ 57 ∷ 52 ∷ 57 ∷ 54 ∷ 55 ∷ 50 ∷ 57 ∷ 53 ∷ 32 ∷ 48 ∷ 10 ∷ 102 ∷
    32 ∷ 53 ∷ 32 ∷ 48 ∷ 32 ∷ 48 ∷ 32 ∷ 49 ∷ 10 ∷ 102 ∷ 32 ∷ 53 ∷ 32 ∷ 49 ∷ 32 ∷ 48 ∷ 32 ∷ 50 ∷ 10 ∷ [])
    (store_text 4 40 ++ refused_text 2 2 ++ refused_text 3 2) ∷
    -- `f 4 40 0↵f 4 40 0 0 0↵f 4 40 0 0,5↵`
    row (102 ∷ 32 ∷ 52 ∷ 32 ∷ 52 ∷ 48 ∷ 32 ∷ 48 ∷ 10 ∷ 102 ∷ 32 ∷ 52 ∷ 32 ∷ 52 ∷ 48 ∷ 32 ∷ 48 ∷ 32 ∷ 48 ∷ 32 ∷ 48 ∷
    10 ∷ 102 ∷ 32 ∷ 52 ∷ 32 ∷ 52 ∷ 48 ∷ 32 ∷ 48 ∷ 32 ∷ 48 ∷ 44 ∷ 53 ∷ 10 ∷ [])
    (refused_text 1 10 ++ refused_text 2 10 ++ refused_text 3 10) ∷
    -- `+ 0,5 7 1↵+ 1 2 0`
    row (43 ∷ 32 ∷ 48 ∷ 44 ∷ 53 ∷ 32 ∷ 55 ∷ 32 ∷ 49 ∷ 10 ∷ 43 ∷ 32 ∷ 49 ∷ 32 ∷ 50 ∷ 32 ∷ 48 ∷ [])
    (refused_text 1 10 ++ refused_text 2 1) ∷
    -- `↵`
    row (10 ∷ [])
    (refused_text 1 10) ∷
    -- ``
    row ([])
    ([]) ∷
    []

scripts-run : map (λ (r : Row). script_output r.script) table ≡ map (λ (r : Row). r.output) table
unfolding row table blocks number_of read_line digits store_text refused_text length_ok tested store_in_use format_replacing
    insert_outcome lookup_outcome work_outcome run_command script_output
scripts-run = refl
