use Rattle.std.proofs.Common.{◌≡◌, ℕ, ◌*◌, Option, Some, List, take, sym, ap, ◌∙◌}
use Rattle.line.specs.declared.Command.{Command}
use Rattle.text.specs.TextLaws.{wrote_as}
use Rattle.interpreter.specs.Script.{answer_text, work_text, run_command}
use Rattle.interpreter.specs.RunsLaws.{part-size, stands-kept, stands-made, runs_as}
use Rattle.interpreter.proofs.calls.run_command.Goals as goal

-- the turn of a command that is known
turn : (line blocks : ℕ) (s : List ℕ) (x y : Option Command) → x ≡ y
    → run_command y line (take (512 * blocks) s) ≡ run_command x line (take (512 * blocks) s)
turn line blocks s x y e = ap (λ (k : Option Command). run_command k line (take (512 * blocks) s)) (sym e)

pub returns-in-Insert : goal.returns-in-Insert
unfolding run_command
returns-in-Insert c =
    let a = c.args in
    let f = c.insert_lent-answer in
    runs_as (turn a.line a.blocks a.store.now _ _ (c.in-Some.is ∙ ap Some c.in-Insert.is))
    (record {
      store = stands-made a.store.now _ f.new.store c.requires.few (f.auto.store ∙ part-size c.requires)
          f.ensures.store_after;
      text = wrote_as (ap (answer_text a.line) f.ensures.value) c.put_answer-written.ensures;
    })

pub returns-in-Remove : goal.returns-in-Remove
unfolding run_command
returns-in-Remove c =
    let a = c.args in
    let f = c.remove_lent-answer in
    runs_as (turn a.line a.blocks a.store.now _ _ (c.in-Some.is ∙ ap Some c.in-Remove.is))
    (record {
      store = stands-made a.store.now _ f.new.store c.requires.few (f.auto.store ∙ part-size c.requires)
          f.ensures.store_after;
      text = wrote_as (ap (answer_text a.line) f.ensures.value) c.put_answer-written-in-Remove.ensures;
    })

pub returns-in-Work : goal.returns-in-Work
unfolding run_command
returns-in-Work c =
    let a = c.args in
    let f = c.work_lent-answer in
    runs_as (turn a.line a.blocks a.store.now _ _ (c.in-Some.is ∙ ap Some c.in-Work.is))
    (record {
      store = stands-made a.store.now _ f.new.store c.requires.few (f.auto.store ∙ part-size c.requires)
          f.ensures.store_after;
      text = wrote_as (ap (work_text a.line) f.ensures.value) c.put_worked-written.ensures;
    })

pub returns-in_default : goal.returns-in_default
unfolding run_command
returns-in_default c =
    let a = c.args in
    runs_as (turn a.line a.blocks a.store.now _ _ c.in_default.is)
    (record { store = stands-kept c.requires; text = c.put_refused-written.ensures })
