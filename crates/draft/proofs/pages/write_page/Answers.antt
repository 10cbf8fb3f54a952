use Rattle.store.specs.Store.{trailer}
use Rattle.store.specs.TrailerLaws.{length-trailer}
use Rattle.draft.proofs.Rewriting.{insert-ready, page-of-one}
use Rattle.draft.proofs.pages.write_page.Goals as goal

pub insert_at-requires : goal.insert_at-requires
insert_at-requires c =
    let t = c.args.t in
    insert-ready (trailer t.prev t.next t.bucket t.flags) (length-trailer t.prev t.next t.bucket t.flags)
    c.requires.1.inside c.write_empty.ensures c.requires.1.draft

pub returns : goal.returns
returns c =
    let t = c.args.t in
    page-of-one (trailer t.prev t.next t.bucket t.flags) (length-trailer t.prev t.next t.bucket t.flags)
    c.requires.1.inside c.write_empty.ensures c.args.e _ _ c.insert_at.ensures
