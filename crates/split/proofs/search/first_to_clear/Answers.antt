use Rattle.std.proofs.Common.{false, rules}
use Rattle.view.specs.ReadsLaws.{reads-max}
use Rattle.split.proofs.search.first_to_clear.Goals as goal

pub returns-clause-seeks : goal.returns-clause-seeks
returns-clause-seeks c =
    let q = reads-max c.requires.reads in
    (c.first_in_old.ensures.searches false c.requires.before.0
    (record { at = λ i d b le lt p. search rules })).0

pub returns-clause-located : goal.returns-clause-located
returns-clause-located c =
    let q = reads-max c.requires.reads in
    (c.first_in_old.ensures.searches false c.requires.before.0
    (record { at = λ i d b le lt p. search rules })).1
