use Rattle.std.proofs.Common.{refl, ◌∙◌}
use Rattle.chain.specs.WithinLaws.{zero_room}
use Rattle.view.specs.SourcedLaws.{sourced-own, sourced-old, sourced-find}
use Rattle.view.proofs.held.find_held.Goals as goal

pub walk_sources-walks-requires : goal.walk_sources-walks-requires
walk_sources-walks-requires c = (c.requires, zero_room c.zero_walk-own.ensures, zero_room c.zero_walk-old.ensures)

pub find_along-requires : goal.find_along-requires
find_along-requires c =
    let h = c.args.pair.hash in
    record {
      within = sourced-own c.requires h c.walk_sources-walks.ensures;
      within_2 = sourced-old c.requires h c.walk_sources-walks.ensures;
    }

pub returns : goal.returns
returns c =
    c.find_along.ensures
    ∙ sourced-find c.requires c.args.pair.hash c.walk_sources-walks.ensures c.args.pair refl
