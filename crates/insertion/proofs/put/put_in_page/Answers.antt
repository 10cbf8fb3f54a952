use Rattle.std.proofs.Common.{ap, ◌∙◌, ℕ, List}
use Rattle.page.specs.Entries.{entries_of}
use Rattle.page.specs.Places.{place_of}
use Rattle.view.specs.ReadsLaws.{reads_sized, reads_whole}
use Rattle.insertion.specs.PutLaws.{room-under, room-sorted, room-ready, room_fields, room-plans}
use Rattle.insertion.proofs.put.put_in_page.Goals as goal

pub block_at-requires : goal.block_at-requires
block_at-requires c =
    let h = c.requires.1 in
    reads_whole h.leaves.reads _ (room-under h)

pub find_place-slot-requires : goal.find_place-slot-requires
find_place-slot-requires c = rw c.block_at.ensures (room-sorted c.requires.1)

pub insert_at-requires : goal.insert_at-requires
insert_at-requires c =
    let h = c.requires.1 in
    let slot = c.find_place-slot.ensures ∙ ap (λ (l : List ℕ). place_of c.args.e.pair (entries_of l)) c.block_at.ensures in
    let start = c.clear.ensures.by_index c.args.store.now (reads_sized h.leaves.reads).whole in
    room-ready h _ slot start c.clear.ensures.count_value

pub put_fields-requires : goal.put_fields-requires
put_fields-requires c =
    let h = c.requires.1 in
    let slot = c.find_place-slot.ensures ∙ ap (λ (l : List ℕ). place_of c.args.e.pair (entries_of l)) c.block_at.ensures in
    let start = c.clear.ensures.by_index c.args.store.now (reads_sized h.leaves.reads).whole in
    room_fields h _ slot start c.clear.ensures.count_value c.insert_at.ensures

pub drop_unchanged-requires : goal.drop_unchanged-requires
drop_unchanged-requires c =
    let h = c.requires.1 in
    let slot = c.find_place-slot.ensures ∙ ap (λ (l : List ℕ). place_of c.args.e.pair (entries_of l)) c.block_at.ensures in
    let start = c.clear.ensures.by_index c.args.store.now (reads_sized h.leaves.reads).whole in
    let w = room_fields h _ slot start c.clear.ensures.count_value c.insert_at.ensures in
    (c.put_fields.ensures.draft w.0 w.1.draft).fits

pub returns : goal.returns
returns c b h =
    let slot = c.find_place-slot.ensures ∙ ap (λ (l : List ℕ). place_of c.args.e.pair (entries_of l)) c.block_at.ensures in
    let start = c.clear.ensures.by_index c.args.store.now (reads_sized h.leaves.reads).whole in
    room-plans h _ slot start c.clear.ensures.count_value c.insert_at.ensures _
    c.with_fields.ensures c.put_fields.ensures c.drop_unchanged.ensures
