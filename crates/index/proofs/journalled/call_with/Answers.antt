use Rattle.std.proofs.Common.{◌∙◌}
use Rattle.std.proofs.lemmas.Result.{err_from_is_err_and}
use Rattle.journal.specs.Journal.{disk}
use Rattle.index.specs.ReadyLaws.{call-refused, call-made}
use Rattle.index.proofs.journalled.call_with.Goals as goal

pub returns-in_err-pair : goal.returns-in_err-pair
returns-in_err-pair g c =
    let a = c.args in
    let p = err_from_is_err_and c.from_residual.result c.from_residual.ensures.1 in
    rw (p.1, p.2)
    (call-refused (disk a.store.now a.journal.now) (record { hash = a.hash; block = a.block; offset = a.offset })
    c.test_pair_ready.ensures (g.C.PairCall.call a.call.now) c.in_err-pair.was)

pub returns : goal.returns
returns g c =
    let a = c.args in
    call-made (disk a.store.now a.journal.now) (record { hash = a.hash; block = a.block; offset = a.offset })
    c.test_pair_ready.ensures (g.C.PairCall.call a.call.now) c.in_ok-pair.was ∙ c.call_written.ensures
