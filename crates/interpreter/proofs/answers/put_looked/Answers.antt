use Rattle.std.proofs.Common.{sym, ap, ◌∙◌, subst}
use Rattle.text.specs.Text.{refused_text}
use Rattle.text.specs.TextLaws.{wrote_as}
use Rattle.model.specs.Answers.{LookupAnswer}
use Rattle.interpreter.specs.Script.{lookup_text}
use Rattle.interpreter.specs.Runs.{Roomy}
use Rattle.interpreter.proofs.answers.put_looked.Goals as goal

pub put_found-requires : goal.put_found-requires
put_found-requires c =
    let room = subst (λ (a : LookupAnswer). Roomy a c.args.places.now) c.in-Ok.is c.requires.roomy in
    (room.1, room.0, c.requires.line_output_in_bounds)

pub returns-in-Ok : goal.returns-in-Ok
returns-in-Ok c =
    let a = c.args in
    wrote_as (sym (ap (λ (x : LookupAnswer). lookup_text a.line x a.places.now) c.in-Ok.is)) c.put_found.ensures

pub returns-in-Err : goal.returns-in-Err
returns-in-Err c =
    let a = c.args in
    wrote_as
    (ap (refused_text a.line) c.number.ensures
    ∙ sym (ap (λ (x : LookupAnswer). lookup_text a.line x a.places.now) c.in-Err.is))
    c.put_refused.ensures
