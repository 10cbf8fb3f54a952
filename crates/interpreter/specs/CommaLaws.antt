-- docs/RULES.md 1.6, "a loader once read 0,5 as 0": a line with a comma in it is refused with 10 and its line number,
-- and the store stays.
use Rattle.std.specs.Prelude.{◌≡◌, ℕ, true, List, Option}
use Rattle.std.proofs.Common.{ap}
use Rattle.line.specs.declared.Command.{Command}
use Rattle.line.specs.Words.{comma}
use Rattle.line.specs.Command.{read_line}
use Rattle.text.specs.Text.{refused_text}
use Rattle.line.proofs.CommaLaws.{comma-unreadable}
use Rattle.interpreter.specs.Script.{run_command}

pub comma-refused : (l : List ℕ) → comma l ≡ true → (number : ℕ) (store : List ℕ)
    → run_command (read_line l) number store ≡ record { text = refused_text number 10; store = store }
unfolding run_command
comma-refused l h n s = ap (λ (c : Option Command). run_command c n s) (comma-unreadable l h)
