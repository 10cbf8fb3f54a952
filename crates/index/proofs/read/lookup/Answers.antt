use Rattle.std.proofs.Common.{true, length, sym, ap, ◌∙◌, arith}
use Rattle.std.proofs.lemmas.Result.{err_from_is_err_and}
use Rattle.lists.specs.BlockLaws.{length-block}
use Rattle.image.specs.Decode.{read_meta}
use Rattle.outcomes.specs.Outcomes.{Tested, lookup_on, lookup_outcome}
use Rattle.index.specs.TestedLaws.{passes, fails, passes-room}
use Rattle.index.proofs.read.lookup.Goals as goal

pub returns-in_err-test_store : goal.returns-in_err-test_store
unfolding lookup_outcome
returns-in_err-test_store c =
    let a = c.args in
    let p = err_from_is_err_and c.from_residual.result c.from_residual.ensures.1 in
    rw (p.1, p.2)
    (ap (λ (x : Tested). lookup_on x a.hash a.output.now) (fails true a.store.now _ (sym c.in_err-test_store.ensures)))

pub block_at-requires : goal.block_at-requires
block_at-requires c =
    passes-room (passes c.args.store.now (λ i. omega (arith, c.type_inv.store i)) (sym c.in_ok-test_store.ensures))

pub read_meta-m-requires : goal.read_meta-m-requires
read_meta-m-requires c =
    let p = passes c.args.store.now (λ i. omega (arith, c.type_inv.store i)) (sym c.in_ok-test_store.ensures) in
    ap length c.block_at.ensures ∙ length-block _ 0 (passes-room p)

pub lookup_in-requires : goal.lookup_in-requires
lookup_in-requires c =
    let p = passes c.args.store.now (λ i. omega (arith, c.type_inv.store i)) (sym c.in_ok-test_store.ensures) in
    p.reads _ (c.read_meta-m.ensures ∙ ap read_meta c.block_at.ensures)

pub returns : goal.returns
unfolding lookup_outcome
returns c =
    let a = c.args in
    let p = passes a.store.now (λ i. omega (arith, c.type_inv.store i)) (sym c.in_ok-test_store.ensures) in
    ap (λ (x : Tested). lookup_on x a.hash a.output.now) p.index ∙ c.lookup_in.ensures
