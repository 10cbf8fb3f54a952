use Rattle.std.proofs.Common.{List, Option, ap, arith, sym, ℕ, ◌∙◌, ◌≡◌}
use Rattle.lists.specs.Block.{block}
use Rattle.image.specs.Decode.{decode}
use Rattle.frame.specs.Frame.{map_block}
use Rattle.frame.specs.ImagesLaws.{top_one}
use Rattle.chain.specs.Bitmap.{lowest_free}
use Rattle.view.specs.ReadsLaws.{reads-laid, reads-size, reads_whole, reads-block}
use Rattle.plan.specs.StoreLaws.{map-inside}
use Rattle.plan.specs.FieldLaws.{point-low, read-bit, bit-fits}
use Rattle.insertion.specs.PlacesLaws.{places-some, places-none, NoRoomIn, bit-free, put-again, end-again}
use Rattle.insertion.specs.PlacesLaws.{blocks-left, put_next, end_fresh, put-nowhere}
use Rattle.insertion.proofs.put.put_at_end.Goals as goal

-- what the search finds in the bitmap
found : (s : List ℕ) {k : ℕ} {l : List ℕ} {free : Option ℕ} → k ≡ map_block (decode s) → l ≡ block s k
    → free ≡ lowest_free l → lowest_free (block s (map_block (decode s))) ≡ free
found s at page e = sym (e ∙ ap lowest_free (page ∙ ap (block s) at))

pub bit_block-map-requires : goal.bit_block-map-requires
bit_block-map-requires c = let r = c.requires.reads.0 in bit-fits r 0 (top_one _ (reads-laid r))

pub block_at-requires : goal.block_at-requires
block_at-requires c =
    let r = c.requires.reads.0 in
    reads_whole r _ (omega (arith, c.bit_block-map.ensures, read-bit r 0, map-inside r, reads-size r))

pub lowest_free-requires : goal.lowest_free-requires
lowest_free-requires c =
    let r = c.requires.reads.0 in
    rw c.block_at.ensures
    (reads-block r _ (omega (arith, c.bit_block-map.ensures, read-bit r 0, map-inside r, reads-size r)))

pub put_in_free-requires : goal.put_in_free-requires
put_in_free-requires c =
    let a = c.args in
    let r = c.requires.reads.0 in
    let end : NoRoomIn (decode a.store.now) a.b a.last = record { room = c.requires.b_value.0; page = c.requires.b_value.1 } in
    let q = found a.store.now (c.bit_block-map.ensures ∙ read-bit r 0) c.block_at.ensures c.in-Some.ensures in
    record {
      at_end = end-again r a.b c.requires.reads.1 a.e a.held c.requires.wf a.last end _ q;
      free = bit-free r a.b c.requires.reads.1 a.e a.held c.requires.wf a.last end _ q;
    }

pub returns-in-Some : goal.returns-in-Some
returns-in-Some c =
    let a = c.args in
    let r = c.requires.reads.0 in
    let end : NoRoomIn (decode a.store.now) a.b a.last = record { room = c.requires.b_value.0; page = c.requires.b_value.1 } in
    let q = found a.store.now (c.bit_block-map.ensures ∙ read-bit r 0) c.block_at.ensures c.in-Some.ensures in
    places-some (put-again r a.b c.requires.reads.1 a.e a.held c.requires.wf a.last end _ q) c.put_in_free.ensures

pub made_blocks-requires : goal.made_blocks-requires
made_blocks-requires c = point-low c.requires.reads.0

pub put_in_fresh-requires : goal.put_in_fresh-requires
put_in_fresh-requires c =
    let a = c.args in
    let r = c.requires.reads.0 in
    let end : NoRoomIn (decode a.store.now) a.b a.last = record { room = c.requires.b_value.0; page = c.requires.b_value.1 } in
    let at = c.bit_block-map.ensures ∙ read-bit r 0 in
    let q = found a.store.now at c.block_at.ensures (sym c.in_default.is ∙ c.lowest_free.ensures) in
    let l = rw c.made_blocks.ensures at c.if-made_blocks-m.true in
    record {
      at_end = end_fresh r a.b c.requires.reads.1 a.e a.held c.requires.wf a.last end q l;
      store_bound = (blocks-left r a.b c.requires.reads.1 a.e a.held c.requires.wf a.last end q l, q);
    }

pub returns-then-made_blocks-m : goal.returns-then-made_blocks-m
returns-then-made_blocks-m c =
    let a = c.args in
    let r = c.requires.reads.0 in
    let end : NoRoomIn (decode a.store.now) a.b a.last = record { room = c.requires.b_value.0; page = c.requires.b_value.1 } in
    let at = c.bit_block-map.ensures ∙ read-bit r 0 in
    let q = found a.store.now at c.block_at.ensures (sym c.in_default.is ∙ c.lowest_free.ensures) in
    let l = rw c.made_blocks.ensures at c.if-made_blocks-m.true in
    places-some (put_next r a.b c.requires.reads.1 a.e a.held c.requires.wf a.last end q l) c.put_in_fresh.ensures

pub returns : goal.returns
returns c =
    let a = c.args in
    let r = c.requires.reads.0 in
    let end : NoRoomIn (decode a.store.now) a.b a.last = record { room = c.requires.b_value.0; page = c.requires.b_value.1 } in
    let at = c.bit_block-map.ensures ∙ read-bit r 0 in
    let q = found a.store.now at c.block_at.ensures (sym c.in_default.is ∙ c.lowest_free.ensures) in
    let l = rw c.made_blocks.ensures at c.if-made_blocks-m.false in
    places-none (put-nowhere r a.b c.requires.reads.1 a.e a.held c.requires.wf a.last end q l) c.clear.ensures.count_value
