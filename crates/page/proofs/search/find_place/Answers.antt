use Rattle.std.proofs.Common.{ap, arith, ◌∙◌}
use Rattle.page.specs.Entries.{entries_of}
use Rattle.page.specs.Places.{place_of}
use Rattle.page.specs.EntriesLaws.{length-entries_of}
use Rattle.page.specs.PlaceLaws.{place-le}
use Rattle.page.proofs.RunLaws.{place-run}
use Rattle.page.proofs.RunPartLaws.{run-entries, run-one}
use Rattle.page.specs.Rule.{order_ok}
use Rattle.page.proofs.RuleLaws.{number-le}
use Rattle.page.proofs.search.find_place.Goals as goal

pub place_in_run-requires : goal.place_in_run-requires
place_in_run-requires c = run-one c.args.p.now c.requires c.args.x.hash c.run_from.ensures

pub overflow_add-result : goal.overflow_add-result
unfolding order_ok
overflow_add-result c =
    let l = c.args.p.now in
    let x = c.args.x in
    let entries = run-entries l c.requires x.hash c.run_from.ensures in
    omega (
      arith,
      c.place_in_run.ensures ∙ ap (place_of x) entries,
      place-run x (entries_of l) c.requires.order,
      place-le x (entries_of l),
      length-entries_of l,
      number-le l c.requires.number,
    )

pub returns : goal.returns
unfolding order_ok
returns c =
    let l = c.args.p.now in
    let x = c.args.x in
    let entries = run-entries l c.requires x.hash c.run_from.ensures in
    omega (arith, c.place_in_run.ensures ∙ ap (place_of x) entries, place-run x (entries_of l) c.requires.order)
