use Rattle.std.proofs.Common.{refl, sym, ap, ◌∙◌, arith}
use Rattle.std.proofs.lemmas.List.Edits.{sets}
use Rattle.page.specs.declared.Pair.{Pair}
use Rattle.model.specs.Calls.{place_bytes}
use Rattle.view.proofs.lookup.put_match.Goals as goal

pub returns-then-not-is_counted : goal.returns-then-not-is_counted
returns-then-not-is_counted c = rw (sym c.is_counted.ensures ∙ c.if-not-is_counted.true) (refl, refl)

pub put_place-requires : goal.put_place-requires
put_place-requires c = c.requires.at_in_bounds (sym c.is_counted.ensures ∙ c.if-not-is_counted.false)

pub overflow_add-result : goal.overflow_add-result
overflow_add-result c =
    omega (arith, c.requires.at_in_bounds (sym c.is_counted.ensures ∙ c.if-not-is_counted.false))

pub returns : goal.returns
returns c =
    rw (sym c.is_counted.ensures ∙ c.if-not-is_counted.false) (
      c.put_place.ensures ∙ ap (λ (q : Pair). sets c.args.output.now c.args.at (place_bytes q)) c.pair.ensures,
      refl,
    )
