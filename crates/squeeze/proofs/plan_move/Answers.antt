use Rattle.std.proofs.Common.{ap, ◌∙◌, subst, ℕ, List}
use Rattle.page.specs.Entries.{entries_of}
use Rattle.page.specs.Places.{place_of}
use Rattle.image.specs.Decode.{decode}
use Rattle.view.specs.ReadsLaws.{reads_sized, reads_whole}
use Rattle.plan.specs.Plan.{Plans}
use Rattle.removal.specs.StartLaws.{cuttable}
use Rattle.squeeze.specs.TargetLaws.{target-under, target-sorted, moved-is}
use Rattle.squeeze.specs.MoveLaws.{target-ready, move-ending}
use Rattle.squeeze.proofs.plan_move.Goals as goal

pub block_at-requires : goal.block_at-requires
block_at-requires c =
    let h = c.requires.1 in
    reads_whole h.reads _ (target-under h)

pub find_place-place-requires : goal.find_place-place-requires
find_place-place-requires c = rw c.block_at.ensures (target-sorted c.requires.1)

pub cut_entry-freed-requires : goal.cut_entry-freed-requires
cut_entry-freed-requires c =
    let a = c.args in
    let h = c.requires.1 in
    let draft = c.clear.ensures.by_index _ (reads_sized h.reads).whole in
    (0, c.requires.0, a.e.pair, decode a.store.now, cuttable h.reads a.e.pair draft c.clear.ensures.count_value c.requires.0 h.made h.found)

pub insert_at-requires : goal.insert_at-requires
insert_at-requires c =
    let a = c.args in
    let h = c.requires.1 in
    let place = c.find_place-place.ensures ∙ ap (λ (l : List ℕ). place_of a.e.pair (entries_of l)) c.block_at.ensures in
    let draft = c.clear.ensures.by_index _ (reads_sized h.reads).whole in
    let stands = cuttable h.reads a.e.pair draft c.clear.ensures.count_value c.requires.0 h.made h.found in
    target-ready h (c.cut_entry-freed.ensures 0 _ _ _ stands).1 place

pub end_cut-requires : goal.end_cut-requires
end_cut-requires c =
    let a = c.args in
    let h = c.requires.1 in
    let place = c.find_place-place.ensures ∙ ap (λ (l : List ℕ). place_of a.e.pair (entries_of l)) c.block_at.ensures in
    let draft = c.clear.ensures.by_index _ (reads_sized h.reads).whole in
    let stands = cuttable h.reads a.e.pair draft c.clear.ensures.count_value c.requires.0 h.made h.found in
    let e = c.cut_entry-freed.ensures 0 _ _ _ stands in
    (_, move-ending h e.1 place c.insert_at.ensures e.0)

pub returns : goal.returns
returns c b h =
    let a = c.args in
    let place = c.find_place-place.ensures ∙ ap (λ (l : List ℕ). place_of a.e.pair (entries_of l)) c.block_at.ensures in
    let draft = c.clear.ensures.by_index _ (reads_sized h.reads).whole in
    let stands = cuttable h.reads a.e.pair draft c.clear.ensures.count_value b h.made h.found in
    let e = c.cut_entry-freed.ensures 0 _ _ _ stands in
    subst (Plans _ _ _) (moved-is h) (c.end_cut.ensures _ (move-ending h e.1 place c.insert_at.ensures e.0))
