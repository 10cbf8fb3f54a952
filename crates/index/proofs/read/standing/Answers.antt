use Rattle.std.proofs.Common.{true, length, sym, ap, ◌∙◌, arith}
use Rattle.std.proofs.lemmas.Result.{err_from_is_err_and}
use Rattle.std.specs.Prelude.{Ok, Err}
use Rattle.lists.specs.BlockLaws.{length-block}
use Rattle.image.specs.Decode.{read_meta}
use Rattle.outcomes.specs.Outcomes.{standing_on, standing_outcome}
use Rattle.index.specs.TestedLaws.{passes, fails, passes-room}
use Rattle.index.proofs.read.standing.Goals as goal

pub returns-in_err-test_store : goal.returns-in_err-test_store
unfolding standing_outcome
returns-in_err-test_store c =
    let p = err_from_is_err_and c.from_residual.result c.from_residual.ensures.1 in
    p.1 ∙ ap Err p.2 ∙ sym (ap standing_on (fails true c.args.store.now _ (sym c.in_err-test_store.ensures)))

pub block_at-requires : goal.block_at-requires
block_at-requires c =
    passes-room (passes c.args.store.now (λ i. omega (arith, c.type_inv.store i)) (sym c.in_ok-test_store.ensures))

pub read_meta-m-requires : goal.read_meta-m-requires
read_meta-m-requires c =
    let p = passes c.args.store.now (λ i. omega (arith, c.type_inv.store i)) (sym c.in_ok-test_store.ensures) in
    ap length c.block_at.ensures ∙ length-block _ 0 (passes-room p)

pub standing_of-requires : goal.standing_of-requires
standing_of-requires c =
    let p = passes c.args.store.now (λ i. omega (arith, c.type_inv.store i)) (sym c.in_ok-test_store.ensures) in
    p.reads _ (c.read_meta-m.ensures ∙ ap read_meta c.block_at.ensures)

pub returns : goal.returns
unfolding standing_outcome
returns c =
    let p = passes c.args.store.now (λ i. omega (arith, c.type_inv.store i)) (sym c.in_ok-test_store.ensures) in
    ap Ok c.standing_of.ensures ∙ sym (ap standing_on p.index)
