use Rattle.model.specs.Pages.{cut}
use Rattle.image.specs.Decode.{decode}
use Rattle.view.specs.ReadsLaws.{reads_sized}
use Rattle.removal.specs.StartLaws.{findable, findable-again, two-ending}
use Rattle.removal.proofs.plan_cuts.Goals as goal

pub cut_in-first-requires : goal.cut_in-first-requires
cut_in-first-requires c =
    let a = c.args in
    let r = c.requires.reads in
    let draft = c.clear.ensures.by_index _ (reads_sized r).whole in
    (0, _, findable r a.pair draft c.clear.ensures.count_value a.old c.requires.le_max.1)

pub cut_in-second-requires : goal.cut_in-second-requires
cut_in-second-requires c =
    let a = c.args in
    let r = c.requires.reads in
    let l = c.requires.le_max in
    let draft = c.clear.ensures.by_index _ (reads_sized r).whole in
    let first = findable r a.pair draft c.clear.ensures.count_value a.old l.1 in
    (3, _, findable-again r a.pair a.old a.new l.1 l.0 l.2 (c.cut_in-first.ensures 0 (decode a.store.now) first).1)

pub end_cut-requires : goal.end_cut-requires
end_cut-requires c =
    let a = c.args in
    let r = c.requires.reads in
    let l = c.requires.le_max in
    let x = decode a.store.now in
    let draft = c.clear.ensures.by_index _ (reads_sized r).whole in
    let first = findable r a.pair draft c.clear.ensures.count_value a.old l.1 in
    let u = c.cut_in-first.ensures 0 x first in
    let v = c.cut_in-second.ensures 3 (cut a.pair a.old x) (findable-again r a.pair a.old a.new l.1 l.0 l.2 u.1) in
    (_, two-ending r a.pair a.old a.new l.1 l.0 l.2 u.0 v.0 v.1 c.requires.store_value)

pub returns : goal.returns
returns c =
    let a = c.args in
    let r = c.requires.reads in
    let l = c.requires.le_max in
    let x = decode a.store.now in
    let draft = c.clear.ensures.by_index _ (reads_sized r).whole in
    let first = findable r a.pair draft c.clear.ensures.count_value a.old l.1 in
    let u = c.cut_in-first.ensures 0 x first in
    let v = c.cut_in-second.ensures 3 (cut a.pair a.old x) (findable-again r a.pair a.old a.new l.1 l.0 l.2 u.1) in
    c.end_cut.ensures _ (two-ending r a.pair a.old a.new l.1 l.0 l.2 u.0 v.0 v.1 c.requires.store_value)
