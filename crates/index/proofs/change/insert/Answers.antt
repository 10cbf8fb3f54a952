use Rattle.std.proofs.Common.{sym, ap, ◌∙◌}
use Rattle.std.proofs.lemmas.Result.{err_from_is_err_and}
use Rattle.std.specs.Prelude.{Err}
use Rattle.page.specs.declared.Pair.{Pair}
use Rattle.outcomes.specs.Outcomes.{Changed}
use Rattle.index.specs.CallLaws.{insert-fails, insert-passes}
use Rattle.index.proofs.change.insert.Goals as goal

pub returns-in_err-pair-clause-value : goal.returns-in_err-pair-clause-value
returns-in_err-pair-clause-value c =
    let q : Pair = record { hash = c.args.hash; block = c.args.block; offset = c.args.offset } in
    let p = err_from_is_err_and c.from_residual.result c.from_residual.ensures.1 in
    let e = insert-fails c.args.store.now q c.test_pair.ensures c.in_err-pair.was in
    p.1 ∙ ap Err p.2 ∙ sym (ap (λ (x : Changed). x.answer) e)

pub returns-in_err-pair-clause-store_after : goal.returns-in_err-pair-clause-store_after
returns-in_err-pair-clause-store_after c =
    let q : Pair = record { hash = c.args.hash; block = c.args.block; offset = c.args.offset } in
    sym (ap (λ (x : Changed). x.store) (insert-fails c.args.store.now q c.test_pair.ensures c.in_err-pair.was))

pub returns-clause-value : goal.returns-clause-value
returns-clause-value c =
    let q : Pair = record { hash = c.args.hash; block = c.args.block; offset = c.args.offset } in
    let e = insert-passes c.args.store.now q c.test_pair.ensures c.in_ok-pair.was ∙ c.insert_sound.ensures in
    sym (ap (λ (x : Changed). x.answer) e)

pub returns-clause-store_after : goal.returns-clause-store_after
returns-clause-store_after c =
    let q : Pair = record { hash = c.args.hash; block = c.args.block; offset = c.args.offset } in
    let e = insert-passes c.args.store.now q c.test_pair.ensures c.in_ok-pair.was ∙ c.insert_sound.ensures in
    sym (ap (λ (x : Changed). x.store) e)
