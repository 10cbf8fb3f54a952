use Rattle.std.proofs.Common.{ap, ◌∙◌, arith}
use Rattle.view.specs.ReadsLaws.{reads-laid}
use Rattle.plan.specs.Fields.{fields_after}
use Rattle.plan.specs.StoreLaws.{map-inside}
use Rattle.removal.specs.Freeing.{lowers}
use Rattle.plan.specs.FieldLaws.{read-bit}
use Rattle.removal.specs.FieldLaws.{reads-addressed}
use Rattle.removal.proofs.Closing.{map-start, meta-ready, last-draft, planned}
use Rattle.removal.proofs.ending.end_cut.Goals as goal

pub bit_block-map-requires : goal.bit_block-map-requires
bit_block-map-requires c =
    let r = c.requires.1.reads in
    let a = reads-addressed r in
    (omega (arith, a.low), omega (arith, read-bit r 0, map-inside r, (reads-laid r).size))

pub clear_bit-requires : goal.clear_bit-requires
clear_bit-requires c =
    let e = c.requires.1 in
    record { below = e.below.0; by_index = (_, _, map-start e (c.bit_block-map.ensures ∙ read-bit e.reads 0)) }

pub clear_bit-requires-2 : goal.clear_bit-requires-2
clear_bit-requires-2 c =
    let e = c.requires.1 in
    let q = c.bit_block-map.ensures ∙ read-bit e.reads 0 in
    record { below = e.below.1; by_index = (_, _, (c.clear_bit.ensures _ _ (map-start e q)).sketch) }

pub put_fields-requires : goal.put_fields-requires
put_fields-requires c =
    let e = c.requires.1 in
    let q = c.bit_block-map.ensures ∙ read-bit e.reads 0 in
    let a = c.clear_bit.ensures _ _ (map-start e q) in
    let b = c.clear_bit-2.ensures _ _ a.sketch in
    (_, meta-ready e q a b)

pub drop_unchanged-requires : goal.drop_unchanged-requires
drop_unchanged-requires c =
    let e = c.requires.1 in
    let q = c.bit_block-map.ensures ∙ read-bit e.reads 0 in
    let a = c.clear_bit.ensures _ _ (map-start e q) in
    let b = c.clear_bit-2.ensures _ _ a.sketch in
    let fields =
    c.with_fields.ensures
    ∙ ap (fields_after c.args.m c.args.held) (c.lower_free-free.ensures ∙ ap (lowers c.args.second) c.lower_free.ensures) in
    (last-draft e q a b c.with_fields.result fields c.put_fields.ensures).fits

pub returns : goal.returns
returns c y e =
    let q = c.bit_block-map.ensures ∙ read-bit e.reads 0 in
    let a = c.clear_bit.ensures _ _ (map-start e q) in
    let b = c.clear_bit-2.ensures _ _ a.sketch in
    let n = c.with_fields.result in
    let fields =
    c.with_fields.ensures
    ∙ ap (fields_after c.args.m c.args.held) (c.lower_free-free.ensures ∙ ap (lowers c.args.second) c.lower_free.ensures) in
    planned e q a b n fields c.put_fields.ensures
    (c.drop_unchanged.ensures _ (last-draft e q a b n fields c.put_fields.ensures))
