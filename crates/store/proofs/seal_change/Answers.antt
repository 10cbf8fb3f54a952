use Rattle.std.proofs.Common.{ap, arith, refl, sym, ◌∙◌, ◌≡◌}
use Rattle.store.specs.Change.{seals}
use Rattle.store.proofs.ChangeLaws.{seals-zero, seals-suc}
use Rattle.store.proofs.seal_change.Goals as goal

pub loop-n-init : goal.loop-n-init
loop-n-init c =
    let a = c.args in
    (refl, sym (seals-zero a.number a.change.numbers a.images.now))

pub loop-n-preserved : goal.loop-n-preserved
loop-n-preserved c =
    let l = c.loop-n in
    let a = c.args in
    let next = seals-suc a.number a.change.numbers a.images.now l.n (omega arith) in
    (c.seal_one.auto.images ∙ l.invariant.0, cc)

pub returns : goal.returns
returns c =
    let l = c.loop-n in
    let a = c.args in
    let full : l.n ≡ a.change.count = omega arith in
    l.invariant.1 ∙ ap (seals a.number a.change.numbers a.images.now) full
