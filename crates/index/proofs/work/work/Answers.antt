use Rattle.std.proofs.Common.{sym, ◌∙◌, arith}
use Rattle.std.proofs.lemmas.Result.{err_from_is_err_and}
use Rattle.journal.specs.Journal.{disk}
use Rattle.index.specs.ReadyLaws.{passing, ready-sound, work-refused, work-made}
use Rattle.index.proofs.work.work.Goals as goal

pub run_steps-requires-clause-sound : goal.run_steps-requires-clause-sound
run_steps-requires-clause-sound c =
    ready-sound _ (disk c.args.store.now c.args.journal.now) (λ i. omega (arith, c.slice_known-1.given i))
    (sym c.in_ok-test_ready.ensures)

pub run_steps-requires-clause-journal_len : goal.run_steps-requires-clause-journal_len
run_steps-requires-clause-journal_len c =
    (passing _ (disk c.args.store.now c.args.journal.now) (sym c.in_ok-test_ready.ensures)).journal

pub returns-in_err-test_ready : goal.returns-in_err-test_ready
returns-in_err-test_ready c =
    let a = c.args in
    let p = err_from_is_err_and c.from_residual.result c.from_residual.ensures.1 in
    rw (p.1, p.2) (work-refused (disk a.store.now a.journal.now) a.budget _ (sym c.in_err-test_ready.ensures))

-- as the steps were made, else by what is known of the answer's parts
pub returns : goal.returns
returns c =
    let a = c.args in
    let made = work-made (disk a.store.now a.journal.now) a.budget (λ i. omega (arith, c.slice_known-1.given i))
    (sym c.in_ok-test_ready.ensures) ∙ c.run_steps.ensures in
    first_of (cc made, grind (arith, made))
