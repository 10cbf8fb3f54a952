use Rattle.std.proofs.Common.{◌≡◌, ◌*◌, List, ℕ, ◌++◌, length, take, drop, sym, ap, ◌∙◌, subst, arith, take-append-drop, length-take-le}
use Rattle.model.specs.Calls.{order_of}
use Rattle.text.specs.Text.{refused_text}
use Rattle.text.specs.TextLaws.{wrote_as}
use Rattle.interpreter.specs.Script.{run_command}
use Rattle.interpreter.specs.Runs.{Stands}
use Rattle.interpreter.specs.RunsLaws.{stands-kept, stands-over, runs_as}
use Rattle.interpreter.specs.RunsLaws.{line-is-format, format-done, format-refused, format-kept}
use Rattle.interpreter.proofs.calls.run_format.Goals as goal

pub returns-then-blocks-gt-SCRIPT_BLOCKS : goal.returns-then-blocks-gt-SCRIPT_BLOCKS
unfolding run_command
returns-then-blocks-gt-SCRIPT_BLOCKS c =
    let a = c.args in
    runs_as
    (sym ((line-is-format a.line a.blocks (order_of a.fill a.number a.overwrite)
    (take (512 * a.standing) a.store.now)).1 c.if-blocks-gt-SCRIPT_BLOCKS.true))
    (record { store = stands-kept c.requires; text = c.put_refused-written.ensures })

pub format_standing-answer-requires : goal.format_standing-answer-requires
format_standing-answer-requires c = (c.if-blocks-gt-SCRIPT_BLOCKS.false, c.requires.few, c.requires.store)

pub returns-in-Ok : goal.returns-in-Ok
unfolding run_command
returns-in-Ok c =
    let a = c.args in
    let now = a.store.now in
    let part : length (take (512 * a.blocks) now) ≡ 512 * a.blocks =
    length-take-le (512 * a.blocks) now (omega (arith, c.requires.store, c.if-blocks-gt-SCRIPT_BLOCKS.false)) in
    runs_as
    (format-done (take (512 * a.standing) now) (take (512 * a.blocks) now) a.line a.blocks
    (order_of a.fill a.number a.overwrite) part c.if-blocks-gt-SCRIPT_BLOCKS.false
    (sym c.format_standing-answer.ensures.value ∙ c.in-Ok.is))
    (record {
      store = stands-over now _ c.format_standing-answer.new.store c.if-blocks-gt-SCRIPT_BLOCKS.false c.requires.store
          c.format_standing-answer.auto.store c.format_standing-answer.ensures.store_after;
      text = c.put_store-written.ensures;
    })

pub returns-in-Err : goal.returns-in-Err
unfolding run_command
returns-in-Err c =
    let a = c.args in
    let now = a.store.now in
    let old = take (512 * a.standing) now in
    let new = take (512 * a.blocks) now in
    let o = order_of a.fill a.number a.overwrite in
    let part : length new ≡ 512 * a.blocks =
    length-take-le (512 * a.blocks) now (omega (arith, c.requires.store, c.if-blocks-gt-SCRIPT_BLOCKS.false)) in
    let no = sym c.format_standing-answer.ensures.value ∙ c.in-Err.is in
    let kept : c.format_standing-answer.new.store ≡ now =
    c.format_standing-answer.ensures.store_after
    ∙ ap (λ (x : List ℕ). x ++ drop (512 * a.blocks) now) (format-kept old new a.line a.blocks o _ no)
    ∙ take-append-drop (512 * a.blocks) now in
    runs_as (format-refused old new a.line a.blocks o part c.if-blocks-gt-SCRIPT_BLOCKS.false _ no)
    (record {
      store = subst (λ (x : List ℕ). Stands old now x a.standing) (sym kept) (stands-kept c.requires);
      text = wrote_as (ap (refused_text a.line) c.number.ensures) c.put_refused-written-in-Err.ensures;
    })
