use Rattle.std.proofs.Common.{arith, ◌∙◌}
use lib.Seq.{sets, length-sets}
use Rattle.endian.specs.Endian.{le16}
use Rattle.draft.proofs.Editing.{image-inside, edit-part}
use Rattle.draft.proofs.edit.put_flags.Goals as goal

pub slice_bounds-put_u16-end : goal.slice_bounds-put_u16-end
slice_bounds-put_u16-end c = omega (arith, image-inside c.open_block-at.ensures c.requires.1)

pub returns : goal.returns
returns c =
    let a = c.args in
    edit-part c.open_block-at.ensures (λ b. sets b 504 (le16 a.flags)) (λ b e. length-sets b 504 (le16 a.flags) ∙ e) _
    c.put_u16.ensures
