use Rattle.std.proofs.Common.{◌++◌, drop, arith}
use Rattle.lists.specs.Block.{block, set_block}
use Rattle.image.specs.Layout.{meta_front}
use Rattle.image.specs.Decode.{decode}
use Rattle.view.specs.ReadsLaws.{reads-laid, reads-meta}
use Rattle.plan.specs.SketchLaws.{ready}
use Rattle.split.specs.BegunLaws.{zero-at, begin-count, fields-sketch, plans-begun}
use Rattle.split.proofs.begin.begin_split.Goals as goal

pub begin_fields-requires : goal.begin_fields-requires
begin_fields-requires c =
    let r = c.requires.reads in
    (decode c.args.store.now, reads-laid r, reads-meta r)

pub put_fields-requires : goal.put_fields-requires
put_fields-requires c =
    let u = c.begin_pages.ensures in
    let y = c.requires.store_value_2 in
    (u.made, ready u.sketch 0 (zero-at c.requires.reads y.0 y.1) (omega arith))

pub drop_unchanged-requires : goal.drop_unchanged-requires
drop_unchanged-requires c =
    let r = c.requires.reads in
    let v = c.requires.store_value in
    let y = c.requires.store_value_2 in
    let count = begin-count r y.0 y.1 v.0 v.1 in
    let fields = c.begin_fields.ensures (decode c.args.store.now) y.0 (reads-laid r) (reads-meta r) y.1 count in
    (fields-sketch r y.0 y.1 c.begin_pages.ensures c.begin_fields.result fields c.put_fields.ensures).draft.fits

pub returns : goal.returns
returns c y b =
    let r = c.requires.reads in
    let v = c.requires.store_value in
    let u = c.begin_pages.ensures in
    let m = c.begin_fields.result in
    let fields = c.begin_fields.ensures (decode c.args.store.now) y (reads-laid r) (reads-meta r) b (begin-count r y b v.0 v.1) in
    let k = (fields-sketch r y b u m fields c.put_fields.ensures).draft in
    plans-begun r y b u m fields c.put_fields.ensures v.0
    (c.drop_unchanged.ensures (set_block u.made 0 (meta_front m ++ drop 492 (block u.made 0))) k)
