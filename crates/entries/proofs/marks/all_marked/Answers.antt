use Rattle.std.proofs.Common.{length, sym, ap, ◌∙◌}
use borrow.Author.Tests.{not-true, not-false}
use Rattle.lists.specs.Lists.{all}
use Rattle.merge.specs.Merge.{joined}
use Rattle.merge.specs.Heads.{left_of}
use Rattle.merge.specs.MergingLaws.{merging-upto, merging-done}
use Rattle.shape.specs.LoopLaws.{passed, failed}
use Rattle.entries.specs.Tests.{marked_by}
use Rattle.entries.specs.TakenLaws.{taken-less}
use Rattle.entries.proofs.Marking.{copy-fits, turn-answer}
use Rattle.entries.proofs.marks.all_marked.Goals as goal

pub is_moved-moved-requires : goal.is_moved-moved-requires
is_moved-moved-requires c =
    let m = c.loop-copy.invariant.news in
    let f = copy-fits c.loop-copy.copies m c.requires.new_pages.1 c.in-Some.copy c.in-Some.ensures in
    (m.pages.inside c.in-Some.copy.page f.0, f.1.1.0)

pub pass_before-requires-clause-first_fits : goal.pass_before-requires-clause-first_fits
pass_before-requires-clause-first_fits c =
    let f =
    copy-fits c.loop-copy.copies c.loop-copy.invariant.news c.requires.new_pages.1 c.in-Some.copy c.in-Some.ensures in
    (f.1.0, f.1.1.1)

pub returns-then-moved-is_next : goal.returns-then-moved-is_next
returns-then-moved-is_next c =
    let i = c.loop-copy.invariant in
    sym (failed _ _ _
    (turn-answer c.loop-copy.copies c.take_first.new.self c.loop-copy.originals c.pass_before.new.merge i.news
    c.requires.new_pages.1 c.in-Some.copy c.in-Some.ensures c.requires.old_pages.1 c.pass_before.ensures
    c.take_first.ensures _ c.is_moved-moved.result c.is_next.result i.answer c.is_moved-moved.ensures c.is_next.ensures)
    (not-true _ c.if-moved-is_next.true))

pub loop-copy-smaller : goal.loop-copy-smaller
loop-copy-smaller c =
    let a = c.args in
    taken-less (left_of a.store.now a.new.now c.loop-copy.copies.tails)
    (left_of a.store.now a.new.now c.take_first.new.self.tails) (length a.new.now) c.take_first.ensures.taken
    (merging-upto c.loop-copy.invariant.news c.requires.new_pages.1)

pub loop-copy-preserved : goal.loop-copy-preserved
loop-copy-preserved c =
    let i = c.loop-copy.invariant in
    record {
      news = c.take_first.ensures.merging;
      olds = c.pass_before.ensures.merging;
      answer = passed _ _ _
          (turn-answer c.loop-copy.copies c.take_first.new.self c.loop-copy.originals c.pass_before.new.merge i.news
          c.requires.new_pages.1 c.in-Some.copy c.in-Some.ensures c.requires.old_pages.1 c.pass_before.ensures
          c.take_first.ensures _ c.is_moved-moved.result c.is_next.result i.answer c.is_moved-moved.ensures
          c.is_next.ensures)
          (not-false _ c.if-moved-is_next.false);
    }

pub returns : goal.returns
returns c =
    let a = c.args in
    let i = c.loop-copy.invariant in
    sym (sym i.answer
    ∙ ap (all (marked_by (joined (left_of a.store.now a.old.now c.loop-copy.originals.tails) 0 (length a.old.now))))
    (merging-done i.news c.requires.new_pages.1 c.in_default.ensures))
