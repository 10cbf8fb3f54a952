use Rattle.std.proofs.Common.{◌≡◌, Bool, sym, ap, ◌∙◌, arith}
use Rattle.std.proofs.lemmas.Result.{err_from_is_err_and}
use Rattle.page.specs.declared.Pair.{Pair}
use Rattle.model.specs.Answers.{Answer}
use Rattle.journal.specs.Journal.{Disk, disk}
use Rattle.cuts.specs.Journalled.{tested_with}
use Rattle.index.specs.Tested.{test_of}
use Rattle.index.specs.TestedLaws.{passes-numbers}
use Rattle.index.specs.CallLaws.{pair-offset}
use Rattle.index.specs.ReadyLaws.{passing, pair-unready, pair-ready}
use Rattle.index.proofs.ready.test_pair_ready.Goals as goal

-- what the tests found of a call with the numbers m
found : {t : Answer} (d : Disk) {n m : Bool} → t ≡ test_of (tested_with n d) → n ≡ m → t ≡ test_of (tested_with m d)
found d e h = e ∙ ap (λ (n : Bool). test_of (tested_with n d)) h

pub returns-in_err-test_ready : goal.returns-in_err-test_ready
returns-in_err-test_ready c =
    let a = c.args in
    let d : Disk = disk a.store.now a.journal.now in
    let q : Pair = record { hash = a.hash; block = a.block; offset = a.offset } in
    let p = err_from_is_err_and c.from_residual.result c.from_residual.ensures.1 in
    rw (p.1, p.2)
    (pair-unready d q _ _ (found d c.test_ready.ensures (c.check_pair.ensures a.hash)) c.in_err-test_ready.was)

pub overflow_cast-result : goal.overflow_cast-result
overflow_cast-result c =
    let a = c.args in
    let d : Disk = disk a.store.now a.journal.now in
    let q : Pair = record { hash = a.hash; block = a.block; offset = a.offset } in
    let f = found d c.test_ready.ensures (c.check_pair.ensures a.hash) in
    omega (arith, pair-offset q (passes-numbers _ _ (passing _ d (sym f ∙ c.in_ok-test_ready.was)).store))

pub returns : goal.returns
returns c =
    let a = c.args in
    let d : Disk = disk a.store.now a.journal.now in
    let q : Pair = record { hash = a.hash; block = a.block; offset = a.offset } in
    pair-ready d q _ (λ i. omega (arith, c.type_inv.store i))
    (found d c.test_ready.ensures (c.check_pair.ensures a.hash)) c.in_ok-test_ready.was
