use Rattle.std.proofs.Common.{ap, ◌∙◌}
use Rattle.lists.specs.Block.{set_block}
use Rattle.store.proofs.Parts.{put-block}
use Rattle.store.proofs.put_block.Goals as goal

pub returns : goal.returns
returns c =
    let a = c.args in
    let p = c.copy_from_slice in
    put-block a.store.now a.k p.new.self ∙ ap (set_block a.store.now a.k) p.ensures.after
