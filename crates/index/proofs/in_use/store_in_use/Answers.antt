use Rattle.std.proofs.Common.{ℕ, true, not, eqb, length, sym, ap, ◌∙◌, arith}
use Rattle.lists.specs.BlockLaws.{length-block}
use Rattle.image.specs.Decode.{read_meta}
use Rattle.outcomes.specs.Outcomes.{in_use_on, store_in_use}
use Rattle.view.specs.ReadsLaws.{reads-count}
use Rattle.index.specs.TestedLaws.{passes, fails, passes-room}
use Rattle.index.proofs.in_use.store_in_use.Goals as goal

pub block_at-requires : goal.block_at-requires
block_at-requires c =
    passes-room (passes c.args.store.now (λ i. omega (arith, c.type_inv.store i)) (sym c.in-Ok.ensures))

pub read_meta-requires : goal.read_meta-requires
read_meta-requires c =
    let p = passes c.args.store.now (λ i. omega (arith, c.type_inv.store i)) (sym c.in-Ok.ensures) in
    ap length c.block_at.ensures ∙ length-block _ 0 (passes-room p)

pub returns-in-Ok : goal.returns-in-Ok
unfolding store_in_use
returns-in-Ok c =
    let p = passes c.args.store.now (λ i. omega (arith, c.type_inv.store i)) (sym c.in-Ok.ensures) in
    let r = p.reads c.read_meta.result (c.read_meta.ensures ∙ ap read_meta c.block_at.ensures) in
    ap (λ (n : ℕ). not (eqb n 0)) (reads-count r) ∙ sym (ap in_use_on p.index)

pub returns-in-Err : goal.returns-in-Err
unfolding store_in_use
returns-in-Err c = sym (ap in_use_on (fails true c.args.store.now _ (sym c.in-Err.ensures)))
