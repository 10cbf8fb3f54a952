use Rattle.std.proofs.Common.{ap, ◌∙◌, ◌<◌, arith}
use Rattle.lists.specs.Block.{blocks, block}
use Rattle.frame.specs.ImagesLaws.{top_one}
use Rattle.view.specs.ReadsLaws.{reads-laid, reads_sized, reads-size, reads_whole, reads-block}
use Rattle.plan.specs.StoreLaws.{map-inside}
use Rattle.plan.specs.FieldLaws.{point-low, read-top, read-bit, bit-fits}
use Rattle.insertion.specs.LinkLaws.{linked-at, last_under}
use Rattle.insertion.specs.FreePageLaws.{free-small, free-under, free-first, bit-ready, free-fields, free-plans}
use Rattle.insertion.proofs.put.put_in_free.Goals as goal

pub offset_bounds-spares-s : goal.offset_bounds-spares-s
offset_bounds-spares-s c = omega (arith, point-low c.requires.at_end.leaves.reads)

pub bounds-spares-s : goal.bounds-spares-s
bounds-spares-s c = omega (arith, point-low c.requires.at_end.leaves.reads)

pub bit_block-map-requires : goal.bit_block-map-requires
bit_block-map-requires c =
    let r = c.requires.at_end.leaves.reads in
    bit-fits r 0 (top_one _ (reads-laid r))

pub bit_block-k-requires : goal.bit_block-k-requires
bit_block-k-requires c = bit-fits c.requires.at_end.leaves.reads c.args.n c.requires.free.1

pub link_page-requires : goal.link_page-requires
link_page-requires c =
    let h = c.requires.at_end in
    let page = c.bit_block-k.ensures ∙ read-bit h.leaves.reads c.args.n in
    record {
      store_len = (reads_sized h.leaves.reads).whole;
      last_bound = (last_under h, omega (arith, page, free-under h c.requires.free));
    }

pub put_bit-requires : goal.put_bit-requires
put_bit-requires c =
    let h = c.requires.at_end in
    let page = c.bit_block-k.ensures ∙ read-bit h.leaves.reads c.args.n in
    let map = c.bit_block-map.ensures ∙ read-bit h.leaves.reads 0 in
    record {
      by_index = bit-ready h c.requires.free (linked-at c.link_page.ensures h.page page) _ map;
      n_bound = free-small h c.requires.free;
    }

pub block_at-requires : goal.block_at-requires
block_at-requires c =
    let r = c.requires.at_end.leaves.reads in
    reads_whole r _ (omega (arith, c.bit_block-map.ensures, read-bit r 0, map-inside r, reads-size r))

pub next_free-free-requires : goal.next_free-free-requires
next_free-free-requires c =
    let h = c.requires.at_end in
    let r = h.leaves.reads in
    let under : c.bit_block-map.result < blocks c.args.store.now =
    omega (arith, c.bit_block-map.ensures, read-bit r 0, map-inside r, reads-size r) in
    (rw c.block_at.ensures (reads-block r _ under), free-small h c.requires.free)

pub put_fields-requires : goal.put_fields-requires
put_fields-requires c =
    let h = c.requires.at_end in
    let page = c.bit_block-k.ensures ∙ read-bit h.leaves.reads c.args.n in
    let map = c.bit_block-map.ensures ∙ read-bit h.leaves.reads 0 in
    free-fields h c.requires.free (linked-at c.link_page.ensures h.page page) _ map c.put_bit.ensures

pub drop_unchanged-requires : goal.drop_unchanged-requires
drop_unchanged-requires c =
    let h = c.requires.at_end in
    let page = c.bit_block-k.ensures ∙ read-bit h.leaves.reads c.args.n in
    let map = c.bit_block-map.ensures ∙ read-bit h.leaves.reads 0 in
    let w = free-fields h c.requires.free (linked-at c.link_page.ensures h.page page) _ map c.put_bit.ensures in
    (c.put_fields.ensures.draft w.0 w.1.draft).fits

pub returns : goal.returns
returns c =
    let h = c.requires.at_end in
    let free = c.requires.free in
    let page = c.bit_block-k.ensures ∙ read-bit h.leaves.reads c.args.n in
    let map = c.bit_block-map.ensures ∙ read-bit h.leaves.reads 0 in
    free-plans h free (linked-at c.link_page.ensures h.page page) _ map c.put_bit.ensures _ _ c.with_fields.ensures
    (c.next_free-free.ensures
    ∙ free-first h free _ _ (c.block_at.ensures ∙ ap (block c.args.store.now) map) (read-top h.leaves.reads))
    c.put_fields.ensures c.drop_unchanged.ensures
