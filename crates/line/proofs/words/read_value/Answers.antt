use Rattle.std.proofs.Common.{ap, sym, ◌∙◌, ◌+◌, arith, drop}
use Rattle.line.specs.Words.{value_from}
use Rattle.line.specs.WordsLaws.{value-digit, value_over}
use Rattle.line.proofs.words.read_value.Goals as goal

pub loop-byte-preserved : goal.loop-byte-preserved
loop-byte-preserved c =
    let w = c.args.word.now in
    let i = c.loop-byte.byte-index in
    let digit = c.if-not-is_ascii_digit.ensures.cases in (
      omega arith,
      c.loop-byte.invariant.1
          ∙ value-digit c.loop-byte.value w i (omega arith) (omega (arith, digit)) (omega (arith, digit))
          ∙ ap (λ v. value_from v (drop (i + 1) w)) (omega arith),
    )

pub returns-in_err-checked_mul : goal.returns-in_err-checked_mul
returns-in_err-checked_mul c =
    let digit = c.if-not-is_ascii_digit.ensures.cases in
    c.from_residual.ensures
    ∙ sym (c.loop-byte.invariant.1
    ∙ value_over c.loop-byte.value c.args.word.now c.loop-byte.byte-index
    (omega arith) (omega (arith, digit)) (omega (arith, digit)) (omega arith))
