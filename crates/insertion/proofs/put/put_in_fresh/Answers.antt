use Rattle.std.proofs.Common.{◌≡◌, ap, ◌∙◌, ◌+◌, get_or, set, arith}
use Prim.Native.Nat.{suc}
use Rattle.model.specs.Index.{top_bit}
use Rattle.image.specs.Decode.{decode}
use Rattle.image.proofs.BoundLaws.{top_small}
use Rattle.view.specs.ReadsLaws.{reads-laid, reads_sized, reads-size}
use Rattle.plan.specs.FieldLaws.{point-low, read-top, read_made}
use Rattle.insertion.specs.LinkLaws.{linked-at, last_under}
use Rattle.insertion.specs.FreshPageLaws.{fresh-is, fresh-first, fresh-fields, fresh-plans}
use Rattle.insertion.proofs.put.put_in_fresh.Goals as goal

pub made_blocks-k-requires : goal.made_blocks-k-requires
made_blocks-k-requires c = point-low c.requires.at_end.leaves.reads

pub overflow_cast-k : goal.overflow_cast-k
overflow_cast-k c =
    let r = c.requires.at_end.leaves.reads in
    omega (arith, c.made_blocks-k.ensures, read_made r, c.requires.store_bound.0, (reads-laid r).size)

pub bounds-spares-s : goal.bounds-spares-s
bounds-spares-s c = omega (arith, point-low c.requires.at_end.leaves.reads)

pub overflow_add-top : goal.overflow_add-top
overflow_add-top c =
    let r = c.requires.at_end.leaves.reads in
    omega (arith, read-top r, top_small _ (reads-laid r))

pub bounds-spares-s-2 : goal.bounds-spares-s-2
bounds-spares-s-2 c = omega (arith, point-low c.requires.at_end.leaves.reads)

pub link_page-requires : goal.link_page-requires
link_page-requires c =
    let h = c.requires.at_end in
    let r = h.leaves.reads in
    record {
      store_len = (reads_sized r).whole;
      last_bound = (
        last_under h,
        omega (arith, c.made_blocks-k.ensures, read_made r, c.requires.store_bound.0, reads-size r),
      );
    }

pub put_fields-requires : goal.put_fields-requires
put_fields-requires c =
    let h = c.requires.at_end in
    let left = c.requires.store_bound.0 in
    fresh-fields h left (linked-at c.link_page.ensures h.page (c.made_blocks-k.ensures ∙ fresh-is h left))

pub drop_unchanged-requires : goal.drop_unchanged-requires
drop_unchanged-requires c =
    let h = c.requires.at_end in
    let left = c.requires.store_bound.0 in
    let w = fresh-fields h left (linked-at c.link_page.ensures h.page (c.made_blocks-k.ensures ∙ fresh-is h left)) in
    (c.put_fields.ensures.draft w.0 w.1.draft).fits

pub returns : goal.returns
returns c =
    let h = c.requires.at_end in
    let m = c.args.m in
    let left = c.requires.store_bound.0 in
    let top : get_or m.spares m.point 0 + 1 ≡ suc (top_bit (decode c.args.store.now)) = omega (arith, read-top h.leaves.reads) in
    fresh-plans h left (linked-at c.link_page.ensures h.page (c.made_blocks-k.ensures ∙ fresh-is h left)) _ _ _
    c.with_fields.ensures (top ∙ fresh-first h left c.requires.store_bound.1)
    (ap (set m.spares m.point) top)
    c.put_fields.ensures c.drop_unchanged.ensures
