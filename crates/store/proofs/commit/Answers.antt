use Rattle.std.proofs.Common.{ap, arith, refl, sym, ◌∙◌, ◌≡◌}
use Rattle.store.specs.Change.{commits}
use Rattle.store.proofs.ChangeLaws.{commits-zero, commits-suc}
use Rattle.store.proofs.commit.Goals as goal

pub loop-done-init : goal.loop-done-init
loop-done-init c =
    let a = c.args in
    (refl, sym (commits-zero a.store.now a.change.numbers a.images.now))

pub loop-done-preserved : goal.loop-done-preserved
loop-done-preserved c =
    let l = c.loop-done in
    let a = c.args in
    let next = commits-suc a.store.now a.change.numbers a.images.now l.done in
    (c.commit_one.auto.store ∙ l.invariant.0, cc)

pub returns : goal.returns
returns c =
    let l = c.loop-done in
    let a = c.args in
    let full : l.done ≡ a.change.count = omega arith in
    l.invariant.1 ∙ ap (commits a.store.now a.change.numbers a.images.now) full
