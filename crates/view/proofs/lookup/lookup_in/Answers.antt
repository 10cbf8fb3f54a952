use Rattle.std.proofs.Common.{List, ap, ◌∙◌, arith}
use Rattle.page.specs.declared.Pair.{Pair}
use Rattle.image.specs.Decode.{decode}
use Rattle.view.specs.Lookup.{written}
use Rattle.view.specs.SourcedLaws.{sourced-own, sourced-old, sourced-some, sourced-room, sourced-number, sourced-matches}
use Rattle.view.specs.LookupLaws.{sourced-listable, lookup-short, lookup-written}
use Rattle.view.proofs.lookup.lookup_in.Goals as goal

pub count_along-matches-requires-clause-within : goal.count_along-matches-requires-clause-within
count_along-matches-requires-clause-within c = sourced-own c.requires c.args.hash c.walk_sources-walks.ensures

pub count_along-matches-requires-clause-within_2 : goal.count_along-matches-requires-clause-within_2
count_along-matches-requires-clause-within_2 c = sourced-old c.requires c.args.hash c.walk_sources-walks.ensures

pub returns-then-output-matches : goal.returns-then-output-matches
returns-then-output-matches c =
    lookup-short (decode c.args.store.now) c.args.hash c.args.output.now c.count_along-matches.result
    (c.count_along-matches.ensures ∙ sourced-number c.requires c.args.hash c.walk_sources-walks.ensures)
    c.if-output-matches.true

pub put_matches-requires-clause-own_walk : goal.put_matches-requires-clause-own_walk
put_matches-requires-clause-own_walk c =
    sourced-own c.requires c.args.hash c.walk_sources-walks.ensures

pub put_matches-requires-clause-old_walk : goal.put_matches-requires-clause-old_walk
put_matches-requires-clause-old_walk c =
    sourced-old c.requires c.args.hash c.walk_sources-walks.ensures

pub put_matches-requires-clause-sizes : goal.put_matches-requires-clause-sizes
put_matches-requires-clause-sizes c =
    let r = c.requires in
    let h = c.args.hash in
    let w = c.walk_sources-walks.ensures in
    (omega (arith, w.own-count, sourced-some r h w), omega (arith, w.own-count, w.old-count, sourced-room r h w))

pub put_matches-requires-clause-room : goal.put_matches-requires-clause-room
put_matches-requires-clause-room c =
    sourced-listable c.requires c.args.hash c.walk_sources-walks.ensures c.args.output.now c.count_along-matches.result
    c.count_along-matches.ensures c.if-output-matches.false

pub returns : goal.returns
returns c =
    lookup-written (decode c.args.store.now) c.args.hash c.args.output.now c.count_along-matches.result
    (c.count_along-matches.ensures ∙ sourced-number c.requires c.args.hash c.walk_sources-walks.ensures) _
    c.if-output-matches.false
    (c.put_matches.ensures
    ∙ ap (λ (ps : List Pair). written ps c.args.output.now)
    (sourced-matches c.requires c.args.hash c.walk_sources-walks.ensures))
