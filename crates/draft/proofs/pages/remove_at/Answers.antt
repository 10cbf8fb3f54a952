use Rattle.std.proofs.Common.{sym, subst, ℕ, List, arith}
use Rattle.page.specs.Places.{remove_at}
use Rattle.page.specs.Gap.{Held}
use Rattle.draft.proofs.Editing.{image-inside, lent-block, edit-page}
use Rattle.draft.proofs.pages.remove_at.Goals as goal

pub slice_bounds-remove_entry-end : goal.slice_bounds-remove_entry-end
slice_bounds-remove_entry-end c = omega (arith, image-inside c.open_block-at.ensures c.requires.1)

pub remove_entry-requires : goal.remove_entry-requires
remove_entry-requires c =
    subst (λ (b : List ℕ). Held b c.args.slot) (sym (lent-block c.open_block-at.ensures c.requires.1.draft)) c.requires.2

pub returns : goal.returns
returns c =
    edit-page c.open_block-at.ensures (remove_at c.args.slot) _ c.remove_entry.auto.p c.remove_entry.ensures
