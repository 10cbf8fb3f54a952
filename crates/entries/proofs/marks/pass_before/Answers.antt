use Rattle.std.proofs.Common.{◌/◌, refl, length, sym, ◌∙◌, arith}
use Rattle.merge.specs.Heads.{left_of}
use Rattle.merge.specs.MergingLaws.{merging-upto}
use Rattle.entries.specs.TakenLaws.{taken-less}
use Rattle.entries.proofs.Marking.{pass-end, pass_below, pass-turn}
use Rattle.entries.proofs.marks.pass_before.Goals as goal

pub loop-first-init : goal.loop-first-init
loop-first-init c = record { underway = c.requires.underway.0; kept = λ x h. refl }

pub is_next_before-requires : goal.is_next_before-requires
is_next_before-requires c =
    let m = c.loop-first.invariant.underway in
    omega (arith, merging-upto m c.requires.underway.1, m.pages.few)

pub take_first-requires : goal.take_first-requires
take_first-requires c =
    let m = c.loop-first.invariant.underway in
    let f = c.args.first in
    record {
      underway = (m, c.requires.underway.1);
      some_left = pass_below m c.requires.underway.1 f.key (f.tail / 64) c.requires.first_fits.0 c.requires.first_fits.1
          (sym c.is_next_before.ensures ∙ c.loop-first-test.true);
    }

pub loop-first-smaller : goal.loop-first-smaller
loop-first-smaller c =
    let a = c.args in
    taken-less (left_of a.store.now a.pages.now c.loop-first.merge.tails)
    (left_of a.store.now a.pages.now c.take_first.new.self.tails) (length a.pages.now) c.take_first.ensures.taken
    (merging-upto c.loop-first.invariant.underway c.requires.underway.1)

pub loop-first-preserved : goal.loop-first-preserved
loop-first-preserved c =
    let f = c.args.first in
    let turn = pass-turn c.loop-first.invariant.underway c.requires.underway.1 f.key (f.tail / 64) c.requires.first_fits.0
    c.requires.first_fits.1 (sym c.is_next_before.ensures ∙ c.loop-first-test.true) c.take_first.new.self.keys
    c.take_first.new.self.tails c.take_first.new.self.tree c.take_first.ensures in
    record {
      underway = c.take_first.ensures.merging;
      kept = λ x h. c.loop-first.invariant.kept x h ∙ turn x h;
    }

pub returns : goal.returns
returns c =
    let f = c.args.first in
    record {
      kept = c.loop-first.invariant.kept;
      none = pass-end c.loop-first.invariant.underway c.requires.underway.1 f.key (f.tail / 64) c.requires.first_fits.0
          c.requires.first_fits.1 (sym c.is_next_before.ensures ∙ c.loop-first-test.false);
      merging = c.loop-first.invariant.underway;
    }
