use Rattle.std.proofs.Common.{List, sym, ap, ◌∙◌, arith}
use Rattle.std.proofs.Math.Seq.{take_all}
use Rattle.journal.specs.Journal.{BlockStore, disk, do_store, run, wipe}
use Rattle.journal.specs.Planned.{plan_stores, plan_store}
use Rattle.journal.specs.NthLaws.{run-suc, length-plan_stores}
use Rattle.journal.proofs.plan.run_plan.Goals as goal

pub loop-n-preserved : goal.loop-n-preserved
unfolding plan_store
loop-n-preserved c =
    let a = c.args in
    let n = c.loop-n.n in
    let long = length-plan_stores a.plan.now in
    run-suc (plan_stores a.plan.now) wipe n (disk a.store.now a.journal.now) (omega arith)
    ∙ ap (do_store (plan_store a.plan.now n)) c.loop-n.invariant
    ∙ c.store_planned.ensures

pub returns : goal.returns
returns c =
    let a = c.args in
    let long = length-plan_stores a.plan.now in
    ap (λ (qs : List BlockStore). run qs (disk a.store.now a.journal.now))
    (sym (take_all c.loop-n.n (plan_stores a.plan.now) (omega arith)))
    ∙ c.loop-n.invariant
