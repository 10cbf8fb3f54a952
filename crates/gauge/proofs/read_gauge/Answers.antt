use Rattle.std.proofs.Common.{true, length, sym, ap, ◌∙◌, arith}
use Rattle.std.specs.Float.Ieee.{of_bits}
use Rattle.lists.specs.BlockLaws.{length-block}
use Rattle.image.specs.Decode.{read_meta}
use Rattle.index.specs.TestedLaws.{passes, fails, passes-room}
use Rattle.gauge.specs.Gauge.{shows, gauge_on, gauge_outcome}
use Rattle.gauge.proofs.read_gauge.Goals as goal

pub block_at-requires : goal.block_at-requires
block_at-requires c =
    passes-room (passes c.args.store.now (λ i. omega (arith, c.type_inv.store i)) (sym c.in-Ok.ensures))

pub read_meta-m-requires : goal.read_meta-m-requires
read_meta-m-requires c =
    let p = passes c.args.store.now (λ i. omega (arith, c.type_inv.store i)) (sym c.in-Ok.ensures) in
    ap length c.block_at.ensures ∙ length-block _ 0 (passes-room p)

pub gauge_of-requires : goal.gauge_of-requires
gauge_of-requires c =
    let p = passes c.args.store.now (λ i. omega (arith, c.type_inv.store i)) (sym c.in-Ok.ensures) in
    p.reads _ (c.read_meta-m.ensures ∙ ap read_meta c.block_at.ensures)

pub returns-in-Err : goal.returns-in-Err
unfolding gauge_outcome of_bits
returns-in-Err c = sym (ap gauge_on (fails true c.args.store.now _ (sym c.in-Err.ensures)))

pub returns-in-Ok : goal.returns-in-Ok
unfolding gauge_outcome
returns-in-Ok c =
    let p = passes c.args.store.now (λ i. omega (arith, c.type_inv.store i)) (sym c.in-Ok.ensures) in
    ap shows c.gauge_of.ensures ∙ sym (ap gauge_on p.index)
