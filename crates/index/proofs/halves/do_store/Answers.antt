use Rattle.std.proofs.Common.{◌≡◌, refl, sym, ap, subst, ◌∙◌, true, false, List, ℕ, length, leb}
use borrow.Author.Tests.{ne_eqb, le-leb, lt-leb}
use Rattle.std.specs.Prelude.{Err}
use Rattle.std.proofs.lemmas.Result.{err_from_is_err_and}
use Rattle.model.specs.declared.LentError.{LentError}
use Rattle.image.specs.Rules.{length_ok}
use Rattle.chain.specs.WalkLaws.{length_ok-sized}
use Rattle.journal.specs.Journal.{disk, sixteen, do_store}
use Rattle.journal.specs.Planned.{plan_store}
use Rattle.cuts.specs.Halves.{store_outcome}
use Rattle.index.specs.HalvesLaws.{place-there, place-few, place-below, place_inside}
use Rattle.index.specs.HalvesLaws.{store-done, store-refused}
use Rattle.index.proofs.halves.do_store.Goals as goal

pub returns-then-plan-lt5632 : goal.returns-then-plan-lt5632
unfolding store_outcome
returns-then-plan-lt5632 c =
    let no : leb 5632 (length c.args.plan.now) ≡ false = lt-leb 5632 _ c.if-plan-lt5632.true in
    rw no refl

pub returns-then-not-check_length : goal.returns-then-not-check_length
unfolding store_outcome
returns-then-not-check_length c =
    let room : leb 5632 (length c.args.plan.now) ≡ true = le-leb 5632 _ c.if-plan-lt5632.false in
    let no : length_ok c.args.store.now ≡ false = sym c.check_length.ensures ∙ c.if-not-check_length.true in
    rw (room, no) refl

pub returns-in_default : goal.returns-in_default
unfolding store_outcome
returns-in_default c =
    let room : leb 5632 (length c.args.plan.now) ≡ true = le-leb 5632 _ c.if-plan-lt5632.false in
    let legal : length_ok c.args.store.now ≡ true = sym c.check_length.ensures ∙ c.if-not-check_length.false in
    let no : sixteen c.args.journal.now ≡ false = ne_eqb _ 8192 c.in_default.ensures.cases in
    rw (room, legal, no) refl

pub returns-in_err-place : goal.returns-in_err-place
returns-in_err-place c =
    let a = c.args in
    let p = err_from_is_err_and c.from_residual.result c.from_residual.ensures.1 in
    rw (p.1, p.2)
    (store-refused a.store.now a.journal.now a.plan.now a.n c.if-plan-lt5632.false (sym c.if-not-check_length.ensures)
    c.in-Some.ensures.cases.long c.store_place.ensures c.in_err-place.was
    ∙ ap
    (λ (j : List ℕ). record {
      answer = Err (LentError.Refused c.in_err-place.field-0.0);
      disk = disk a.store.now j;
    })
    (sym c.in-Some.ensures.cases.same))

pub store_planned-requires-clause-plan_bound : goal.store_planned-requires-clause-plan_bound
store_planned-requires-clause-plan_bound c =
    let a = c.args in
    let ok = place-there a.store.now a.journal.now a.plan.now a.n c.store_place.ensures c.in_ok-place.was in (
      place-few a.store.now a.journal.now a.plan.now a.n ok,
      place-below a.store.now a.journal.now a.plan.now a.n ok,
    )

pub store_planned-requires-clause-by_index : goal.store_planned-requires-clause-by_index
store_planned-requires-clause-by_index c =
    let a = c.args in
    place_inside a.store.now a.journal.now a.plan.now a.n
    (place-there a.store.now a.journal.now a.plan.now a.n c.store_place.ensures c.in_ok-place.was)
    (length_ok-sized _ (sym c.if-not-check_length.ensures)).whole

pub returns : goal.returns
returns c =
    let a = c.args in
    let done = c.store_planned.new in
    store-done a.store.now a.journal.now a.plan.now a.n c.if-plan-lt5632.false (sym c.if-not-check_length.ensures)
    c.in-Some.ensures.cases.long c.store_place.ensures c.in_ok-place.was
    (subst
    (λ (j : List ℕ). do_store (plan_store a.plan.now a.n) (disk a.store.now j) ≡ disk done.store done.journal)
    c.in-Some.ensures.cases.same c.store_planned.ensures)
