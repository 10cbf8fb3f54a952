use Rattle.std.proofs.Common.{true, arith, rules}
use Rattle.std.proofs.lemmas.List.{length-take}
use Rattle.split.specs.MoverLaws.{copies-count, copies-within, copies-pages, copy-answers}
use Rattle.split.proofs.search.first_to_copy.Goals as goal

pub first_in_old-requires-clause-callable : goal.first_in_old-requires-clause-callable
first_in_old-requires-clause-callable c =
    let r = c.requires.reads in
    let w = copies-within r c.args.from.fresh _ _ c.walk_copies-walked.ensures in
    let p = copies-pages r c.args.from.fresh _ _ c.walk_copies-walked.ensures in
    search rules

pub slice_bounds-blocks-end : goal.slice_bounds-blocks-end
slice_bounds-blocks-end c =
    let w = c.walk_copies-walked in
    let count = copies-count c.requires.reads c.args.from.fresh _ _ w.ensures in
    omega (arith, count, length-take w.result w.new.copies)

pub slice_bounds-copies-end : goal.slice_bounds-copies-end
slice_bounds-copies-end c = copies-count c.requires.reads c.args.from.fresh _ _ c.walk_copies-walked.ensures

pub returns-clause-located : goal.returns-clause-located
returns-clause-located c =
    (c.first_in_old.ensures.searches true c.requires.before.0
    (record {
      at = λ i d b le lt p.
          let q = copy-answers c.requires.reads c.args.from.fresh _ _ c.walk_copies-walked.ensures _ _ c.requires.before.1 i d le lt in
          search rules;
    })).1

pub returns-clause-seeks : goal.returns-clause-seeks
returns-clause-seeks c =
    (c.first_in_old.ensures.searches true c.requires.before.0
    (record {
      at = λ i d b le lt p.
          let q = copy-answers c.requires.reads c.args.from.fresh _ _ c.walk_copies-walked.ensures _ _ c.requires.before.1 i d le lt in
          search rules;
    })).0
