use Rattle.std.proofs.Common.{arith, ◌∙◌}
use lib.Seq.{sets, length-sets}
use Rattle.endian.specs.Endian.{le32}
use Rattle.draft.proofs.Editing.{image-inside, edit-part}
use Rattle.draft.proofs.edit.put_word.Goals as goal

pub slice_bounds-put_u32-end : goal.slice_bounds-put_u32-end
slice_bounds-put_u32-end c = omega (arith, image-inside c.open_block-at.ensures c.requires.by_index.1)

pub returns : goal.returns
returns c =
    let a = c.args in
    edit-part c.open_block-at.ensures (λ b. sets b a.i (le32 a.value)) (λ b e. length-sets b a.i (le32 a.value) ∙ e) _
    c.put_u32.ensures
