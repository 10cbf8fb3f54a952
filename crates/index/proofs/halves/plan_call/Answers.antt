use Rattle.std.proofs.lemmas.Result.{err_from_is_err_and}
use Rattle.index.specs.HalvesLaws.{too_short, call-refused, call-passed}
use Rattle.index.proofs.halves.plan_call.Goals as goal

pub returns-then-plan-lt5632 : goal.returns-then-plan-lt5632
returns-then-plan-lt5632 g c = too_short _ _ c.if-plan-lt5632.true

pub returns-in_err-pair : goal.returns-in_err-pair
returns-in_err-pair g c =
    let a = c.args in
    let p = err_from_is_err_and c.from_residual.result c.from_residual.ensures.1 in
    rw (p.1, p.2)
    (call-refused a.plan.now c.if-plan-lt5632.false (g.C.PairCall.call a.call.now) a.store.now a.journal.now
    (record { hash = a.hash; block = a.block; offset = a.offset }) c.test_pair_ready.ensures c.in_err-pair.was)

pub returns : goal.returns
returns g c =
    let a = c.args in
    call-passed a.plan.now c.if-plan-lt5632.false (g.C.PairCall.call a.call.now) a.store.now a.journal.now
    (record { hash = a.hash; block = a.block; offset = a.offset }) c.test_pair_ready.ensures c.in_ok-pair.was
    c.lay_call.ensures
