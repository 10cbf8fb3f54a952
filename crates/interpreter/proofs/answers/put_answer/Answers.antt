use Rattle.std.proofs.Common.{sym, ap, ◌∙◌}
use Rattle.text.specs.Text.{refused_text}
use Rattle.text.specs.TextLaws.{wrote_as}
use Rattle.interpreter.specs.Script.{answer_text}
use Rattle.interpreter.proofs.answers.put_answer.Goals as goal

pub returns-in-Ok : goal.returns-in-Ok
returns-in-Ok c = wrote_as (sym (ap (answer_text c.args.line) c.in-Ok.is)) c.put_ok.ensures

pub returns-in-Err : goal.returns-in-Err
returns-in-Err c =
    let line = c.args.line in
    wrote_as (ap (refused_text line) c.number.ensures ∙ sym (ap (answer_text line) c.in-Err.is))
    c.put_refused.ensures
