use Rattle.std.proofs.Common.{sym, ap, ◌∙◌, length, arith}
use Prim.Native.Nat.{suc}
use Rattle.lists.specs.BlockLaws.{length-block}
use Rattle.store.specs.Store.{prev_at, next_at}
use Rattle.removal.proofs.Unlinking.{pass-ready, back-ready, clear-ready, freeing}
use Rattle.removal.proofs.pages.free_page.Goals as goal

pub block_at-page-requires : goal.block_at-page-requires
block_at-page-requires c =
    let a = c.requires.2 in
    omega (arith, a.inside, a.sketch.draft.whole)

pub prev_at-prev-requires : goal.prev_at-prev-requires
prev_at-prev-requires c =
    let a = c.requires.2 in
    ap length c.block_at-page.ensures
    ∙ length-block c.args.store.now c.args.k (omega (arith, a.inside, a.sketch.draft.whole))

pub next_at-next-requires : goal.next_at-next-requires
next_at-next-requires c =
    let a = c.requires.2 in
    ap length c.block_at-page.ensures
    ∙ length-block c.args.store.now c.args.k (omega (arith, a.inside, a.sketch.draft.whole))

pub put_next-requires : goal.put_next-requires
put_next-requires c =
    let a = c.requires in
    let prev = sym (c.prev_at-prev.ensures ∙ ap prev_at c.block_at-page.ensures) in
    let next = sym (c.next_at-next.ensures ∙ ap next_at c.block_at-page.ensures) in
    (a.0, pass-ready a.2 prev next)

pub link_back-requires : goal.link_back-requires
link_back-requires c =
    let a = c.requires in
    let prev = sym (c.prev_at-prev.ensures ∙ ap prev_at c.block_at-page.ensures) in
    let next = sym (c.next_at-next.ensures ∙ ap next_at c.block_at-page.ensures) in
    (_, suc a.1, back-ready a.2 prev next c.put_next.ensures)

pub clear_block-requires : goal.clear_block-requires
clear_block-requires c =
    let a = c.requires in
    let prev = sym (c.prev_at-prev.ensures ∙ ap prev_at c.block_at-page.ensures) in
    let next = sym (c.next_at-next.ensures ∙ ap next_at c.block_at-page.ensures) in
    let b = back-ready a.2 prev next c.put_next.ensures in
    (_, clear-ready a.2 prev next c.put_next.ensures (c.link_back.ensures _ (suc a.1) b))

pub returns : goal.returns
returns c d i a =
    let prev = sym (c.prev_at-prev.ensures ∙ ap prev_at c.block_at-page.ensures) in
    let next = sym (c.next_at-next.ensures ∙ ap next_at c.block_at-page.ensures) in
    let b = back-ready a prev next c.put_next.ensures in
    freeing a prev next c.put_next.ensures (c.link_back.ensures _ (suc i) b) c.clear_block.ensures
