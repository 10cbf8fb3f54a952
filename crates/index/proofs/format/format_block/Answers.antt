use Rattle.std.proofs.Common.{refl, ap, ◌∙◌, replicate, rules}
use Rattle.lists.specs.Block.{set_block}
use Rattle.store.proofs.CheckLaws.{sealed-body}
use Rattle.index.proofs.Blocks.{fits_one, finished-one}
use Rattle.index.proofs.format.format_block.Goals as goal

pub finish_as-requires-clause-fits : goal.finish_as-requires-clause-fits
finish_as-requires-clause-fits c = fits_one _ _ c.requires.0

pub returns : goal.returns
returns c =
    let a = c.args in
    c.finish_as.ensures
    ∙ finished-one a.order.number a.store.now _ (replicate 4096 0) c.build_body-body.result _ refl (search rules)
    c.put_block.ensures
    ∙ ap (set_block a.store.now a.k)
    (sealed-body a.order.number a.k c.build_body-body.result _ c.build_body-body.ensures)
