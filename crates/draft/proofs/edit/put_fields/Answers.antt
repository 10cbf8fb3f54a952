use Rattle.std.proofs.Common.{◌≡◌, ◌∙◌, ◌++◌, length, drop, length-append, length-drop, arith, rules}
use Rattle.image.specs.Layout.{meta_front}
use Rattle.image.proofs.MetaLaws.{length-meta_front}
use Rattle.draft.proofs.Editing.{image-inside, edit-part}
use Rattle.draft.proofs.edit.put_fields.Goals as goal

pub slice_bounds-put_meta-end : goal.slice_bounds-put_meta-end
slice_bounds-put_meta-end c = omega (arith, image-inside c.open_block-at.ensures c.requires.1)

pub returns : goal.returns
returns c =
    let m = c.args.m in
    let sixteen : length m.spares ≡ 16 = search rules in
    edit-part c.open_block-at.ensures
    (λ b. meta_front m ++ drop 492 b)
    (λ b e. length-append (meta_front m) (drop 492 b) ∙ omega (arith, length-meta_front m sixteen, length-drop 492 b))
    _ c.put_meta.ensures
