use Rattle.std.proofs.Common.{not, length, sym, ap, ◌∙◌}
use Rattle.image.specs.Rules.{distinct}
use Rattle.merge.specs.Heads.{left_of}
use Rattle.merge.specs.MergingLaws.{merging-upto, merging-done}
use Rattle.shape.specs.LoopLaws.{passed, failed}
use Rattle.entries.specs.TakenLaws.{taken-less}
use Rattle.entries.proofs.Distinct.{turn-answer}
use Rattle.entries.proofs.pages.all_distinct.Goals as goal

pub returns-then-is_next : goal.returns-then-is_next
returns-then-is_next c =
    let i = c.loop-first.invariant in
    sym (failed _ _ _
    (turn-answer c.loop-first.merge c.take_first.new.self i.underway c.requires.1 c.in-Some.first c.in-Some.ensures
    c.take_first.ensures _ c.is_next.result i.answer c.is_next.ensures)
    (ap not c.if-is_next.true))

pub loop-first-smaller : goal.loop-first-smaller
loop-first-smaller c =
    let a = c.args in
    taken-less (left_of a.store.now a.pages.now c.loop-first.merge.tails)
    (left_of a.store.now a.pages.now c.take_first.new.self.tails) (length a.pages.now) c.take_first.ensures.taken
    (merging-upto c.loop-first.invariant.underway c.requires.1)

pub loop-first-preserved : goal.loop-first-preserved
loop-first-preserved c =
    let i = c.loop-first.invariant in
    record {
      underway = c.take_first.ensures.merging;
      answer = passed _ _ _
          (turn-answer c.loop-first.merge c.take_first.new.self i.underway c.requires.1 c.in-Some.first
          c.in-Some.ensures c.take_first.ensures _ c.is_next.result i.answer c.is_next.ensures)
          (ap not c.if-is_next.false);
    }

pub returns : goal.returns
returns c =
    let i = c.loop-first.invariant in
    sym (sym i.answer ∙ ap distinct (merging-done i.underway c.requires.1 c.in_default.ensures))
