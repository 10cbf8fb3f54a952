use Rattle.image.specs.Decode.{decode}
use Rattle.view.specs.ReadsLaws.{reads_sized}
use Rattle.removal.specs.StartLaws.{cuttable, one-ending}
use Rattle.removal.proofs.plan_cut.Goals as goal

pub cut_entry-freed-requires : goal.cut_entry-freed-requires
cut_entry-freed-requires c =
    let a = c.args in
    let r = c.requires.reads in
    let draft = c.clear.ensures.by_index _ (reads_sized r.0).whole in
    (0, a.b, a.pair, decode a.store.now, cuttable r.0 a.pair draft c.clear.ensures.count_value a.b r.1 c.requires.pair_value)

pub end_cut-requires : goal.end_cut-requires
end_cut-requires c =
    let a = c.args in
    let r = c.requires.reads in
    let draft = c.clear.ensures.by_index _ (reads_sized r.0).whole in
    let stands = cuttable r.0 a.pair draft c.clear.ensures.count_value a.b r.1 c.requires.pair_value in
    let e = c.cut_entry-freed.ensures 0 a.b a.pair (decode a.store.now) stands in
    (_, one-ending r.0 a.pair a.b r.1 e.0 e.1 c.requires.wf.1)

pub returns : goal.returns
returns c =
    let a = c.args in
    let r = c.requires.reads in
    let draft = c.clear.ensures.by_index _ (reads_sized r.0).whole in
    let stands = cuttable r.0 a.pair draft c.clear.ensures.count_value a.b r.1 c.requires.pair_value in
    let e = c.cut_entry-freed.ensures 0 a.b a.pair (decode a.store.now) stands in
    c.end_cut.ensures _ (one-ending r.0 a.pair a.b r.1 e.0 e.1 c.requires.wf.1)
