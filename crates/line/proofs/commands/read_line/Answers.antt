use Rattle.std.proofs.Common.{◌≡◌, ℕ, ◌-◌, List, length, take, drop, get_or, sym, ap, ◌∙◌, arith, length-drop, take_all}
use Rattle.line.specs.declared.Fields.{Fields}
use Rattle.line.specs.Words.{words}
use Rattle.line.specs.Command.{fields_from, command_with}
use Rattle.line.specs.CommandLaws.{line-short, line-long, line-no-space, line-call}
use Rattle.line.proofs.commands.read_line.Goals as goal

-- the words after the first
rest : (line : List ℕ) → fields_from Fields.None (words (take (length line - 2) (drop 2 line)))
    ≡ fields_from Fields.None (words (drop 2 line))
rest line =
    ap (λ (l : List ℕ). fields_from Fields.None (words l))
    (take_all (length line - 2) (drop 2 line) (omega (arith, length-drop 2 line)))

pub returns-then-line-gt-MAX_LINE : goal.returns-then-line-gt-MAX_LINE
returns-then-line-gt-MAX_LINE c = sym (line-long c.args.line.now (omega arith))

pub returns-in_default : goal.returns-in_default
returns-in_default c = sym (line-short c.args.line.now c.in_default.len_below)

pub returns-in_default-2 : goal.returns-in_default-2
returns-in_default-2 c =
    sym (line-no-space c.args.line.now c.in_default.len_at_least (omega arith) (λ e. omega arith))

pub returns-in_err-read_fields : goal.returns-in_err-read_fields
returns-in_err-read_fields c =
    let line = c.args.line.now in
    c.from_residual.ensures
    ∙ ap (command_with (get_or line 0 0)) (sym c.in_err-read_fields.was ∙ c.read_fields.ensures ∙ rest line)
    ∙ sym (line-call line c.in-32.len_at_least (omega arith) (omega arith))

pub returns : goal.returns
returns c =
    let line = c.args.line.now in
    c.command_of.ensures
    ∙ ap (command_with (get_or line 0 0)) (sym c.in_ok-read_fields.was ∙ c.read_fields.ensures ∙ rest line)
    ∙ sym (line-call line c.in-32.len_at_least (omega arith) (omega arith))
