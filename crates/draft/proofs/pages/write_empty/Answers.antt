use Rattle.std.proofs.Common.{[], ◌++◌, drop, arith}
use Rattle.page.specs.Entries.{encode_page}
use Rattle.store.specs.Store.{trailer}
use Rattle.store.specs.TrailerLaws.{length-trailer}
use Rattle.draft.proofs.Clearing.{length-empty}
use Rattle.draft.proofs.Editing.{image-inside, edit-part}
use Rattle.draft.proofs.pages.write_empty.Goals as goal

pub slice_bounds-clear_page-end : goal.slice_bounds-clear_page-end
slice_bounds-clear_page-end c = omega (arith, image-inside c.open_block-at.ensures c.requires.1)

pub returns : goal.returns
returns c =
    let a = c.args.t in
    let t = trailer a.prev a.next a.bucket a.flags in
    edit-part c.open_block-at.ensures
    (λ b. encode_page [] (t ++ drop 508 b))
    (λ b e. length-empty b t e (length-trailer a.prev a.next a.bucket a.flags))
    _ c.clear_page.ensures
