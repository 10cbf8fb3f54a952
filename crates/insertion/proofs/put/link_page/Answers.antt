use Rattle.insertion.specs.LinkLaws.{link-ready, page-ready, page-linked}
use Rattle.insertion.proofs.put.link_page.Goals as goal

pub put_next-requires : goal.put_next-requires
put_next-requires c =
    let a = c.args in
    let n = c.clear.ensures in
    let r = c.requires.last_bound in
    link-ready (n.by_index a.store.now c.requires.store_len) n.count_value a.last a.k r.0 r.1

pub write_page-requires : goal.write_page-requires
write_page-requires c =
    let a = c.args in
    let n = c.clear.ensures in
    let r = c.requires.last_bound in
    page-ready (n.by_index a.store.now c.requires.store_len) n.count_value a.last a.k r.0 r.1 c.put_next.ensures

pub returns : goal.returns
returns c =
    let a = c.args in
    let n = c.clear.ensures in
    let r = c.requires.last_bound in
    page-linked (n.by_index a.store.now c.requires.store_len) n.count_value a.last a.k r.0 r.1 c.put_next.ensures a.b a.e
    c.write_page.ensures
