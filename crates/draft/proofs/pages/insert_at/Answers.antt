use Rattle.std.proofs.Common.{sym, subst, ℕ, List, arith}
use Rattle.page.specs.Places.{insert_at}
use Rattle.page.specs.Gap.{Room}
use Rattle.draft.proofs.Editing.{image-inside, lent-block, edit-page}
use Rattle.draft.proofs.pages.insert_at.Goals as goal

pub slice_bounds-insert_entry-end : goal.slice_bounds-insert_entry-end
slice_bounds-insert_entry-end c = omega (arith, image-inside c.open_block-at.ensures c.requires.1)

pub insert_entry-requires : goal.insert_entry-requires
insert_entry-requires c =
    subst (λ (b : List ℕ). Room b c.args.slot) (sym (lent-block c.open_block-at.ensures c.requires.1.draft)) c.requires.2

pub returns : goal.returns
returns c =
    edit-page c.open_block-at.ensures (insert_at c.args.slot c.args.e) _ c.insert_entry.auto.p c.insert_entry.ensures
