use Rattle.std.proofs.Common.{◌≤◌, length, sym, ◌∙◌, arith, eqb-true}
use Rattle.std.proofs.lemmas.Bool.{eqb-false}
use Rattle.line.specs.WordsLaws.{number-empty, number-one, number-zero, number_more}
use Rattle.line.proofs.words.read_number.Goals as goal
use Rattle.line.proofs.words.read_number.Goals.{else-word-gt1-via-then-word-gt1+else-word-eq48, else-word-gt1-via-else-word-gt1}

pub returns-then-is_empty : goal.returns-then-is_empty
returns-then-is_empty c =
    let word = c.args.word.now in
    let none = eqb-true (length word) 0 (sym c.if-is_empty.ensures) in
    sym (number-empty word (omega arith))

pub returns-then-word-eq48 : goal.returns-then-word-eq48
returns-then-word-eq48 c = sym (number-zero c.args.word.now (omega arith) (omega arith))

pub returns : goal.returns
returns c =
    let word = c.args.word.now in
    let some = eqb-false (length word) 0 (sym c.if-is_empty.ensures) in
    let one : 1 ≤ length word = omega arith in
    c.read_value.ensures
    ∙ elim c.else-word-gt1.branch [
      | else-word-gt1-via-then-word-gt1+else-word-eq48 w ↦ sym (number_more word (omega arith) (λ e. omega arith))
      | else-word-gt1-via-else-word-gt1 w ↦ sym (number-one word one (omega arith))
    ]
