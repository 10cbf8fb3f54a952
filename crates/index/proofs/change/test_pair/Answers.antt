use Rattle.std.proofs.Common.{◌≡◌, Bool, List, ℕ, sym, ap, ◌∙◌, arith}
use Rattle.std.proofs.lemmas.Result.{err_from_is_err_and}
use Rattle.page.specs.declared.Pair.{Pair}
use Rattle.outcomes.specs.Outcomes.{tested}
use Rattle.model.specs.Answers.{Answer}
use Rattle.index.specs.Tested.{test_of}
use Rattle.index.specs.TestedLaws.{passes-numbers, pair-fails, pair-passes}
use Rattle.index.specs.CallLaws.{pair-offset}
use Rattle.index.proofs.change.test_pair.Goals as goal

-- what the tests found of a call with the numbers m
found : {t : Answer} (s : List ℕ) {n m : Bool} → t ≡ test_of (tested n s) → n ≡ m → t ≡ test_of (tested m s)
found s e h = e ∙ ap (λ (n : Bool). test_of (tested n s)) h

pub returns-in_err-test_call : goal.returns-in_err-test_call
returns-in_err-test_call c =
    let a = c.args in
    let q : Pair = record { hash = a.hash; block = a.block; offset = a.offset } in
    let p = err_from_is_err_and c.from_residual.result c.from_residual.ensures.1 in
    rw (p.1, p.2)
    (pair-fails a.store.now q _ _ (found a.store.now c.test_call.ensures (c.check_pair.ensures a.hash))
    c.in_err-test_call.was)

pub overflow_cast-result : goal.overflow_cast-result
overflow_cast-result c =
    let a = c.args in
    let q : Pair = record { hash = a.hash; block = a.block; offset = a.offset } in
    let f = found a.store.now c.test_call.ensures (c.check_pair.ensures a.hash) in
    omega (arith, pair-offset q (passes-numbers _ _ (sym f ∙ c.in_ok-test_call.was)))

pub returns : goal.returns
returns c =
    let a = c.args in
    let q : Pair = record { hash = a.hash; block = a.block; offset = a.offset } in
    pair-passes a.store.now q _ (λ i. omega (arith, c.type_inv.store i))
    (found a.store.now c.test_call.ensures (c.check_pair.ensures a.hash)) c.in_ok-test_call.was
