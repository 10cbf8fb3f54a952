use Rattle.std.proofs.Common.{ap, ◌∙◌}
use Rattle.lists.specs.Block.{set_block}
use Rattle.store.specs.Store.{sealed}
use Rattle.store.proofs.Parts.{part-block, put-block}
use Rattle.store.proofs.seal_one.Goals as goal

pub returns : goal.returns
returns c =
    let a = c.args in
    let p = c.seal_block in
    put-block a.images.now a.n p.new.image
    ∙ ap (set_block a.images.now a.n)
    (p.ensures ∙ ap (sealed a.number a.k) (part-block a.images.now a.n))
