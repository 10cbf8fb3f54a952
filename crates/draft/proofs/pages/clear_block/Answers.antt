use Rattle.std.proofs.Common.{◌∙◌, ◌++◌, ℕ, drop, replicate, length-append, length-drop, arith}
use Rattle.std.proofs.lemmas.List.{length-replicate}
use Rattle.draft.proofs.Editing.{image-inside, edit-part}
use Rattle.draft.proofs.pages.clear_block.Goals as goal

pub slice_bounds-zero_block-end : goal.slice_bounds-zero_block-end
slice_bounds-zero_block-end c = omega (arith, image-inside c.open_block-at.ensures c.requires.1)

pub returns : goal.returns
returns c =
    edit-part c.open_block-at.ensures
    (λ b. replicate 508 0 ++ drop 508 b)
    (λ b e.
    length-append (replicate 508 0) (drop 508 b)
    ∙ omega (arith, length-replicate {A = ℕ} 508 0, length-drop 508 b))
    _ c.zero_block.ensures
