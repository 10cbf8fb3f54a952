use Rattle.std.proofs.Common.{arith}
use Rattle.index.specs.HalvesLaws.{place-image}
use Rattle.index.proofs.halves.store_place.Goals as goal

pub returns-then-n-count-2 : goal.returns-then-n-count-2
returns-then-n-count-2 c =
    let a = c.args in
    place-image a.store.now a.plan.now a.n _ c.plan_count-count.ensures (omega arith) (omega arith) (omega arith)
    c.if-n-count-2.true
