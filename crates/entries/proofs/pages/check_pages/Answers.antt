use Rattle.std.proofs.Common.{suc, ◌+◌, ◌≤◌, sym, ◌∙◌, arith}
use Rattle.image.specs.Decode.{max_at}
use Rattle.chain.specs.WithinLaws.{zero_room}
use Rattle.reader.specs.KnownLaws.{max-is}
use Rattle.shape.specs.LoopLaws.{passed, failed, left-turn, left-done}
use Rattle.entries.specs.WalkedLaws.{walk-within}
use Rattle.entries.proofs.Paging.{paged, paging-start, no-page, pair-twice, all-paged}
use Rattle.entries.proofs.pages.check_pages.Goals as goal
use Rattle.entries.proofs.pages.check_pages.Goals.{In-loop-b, After-check_distinct}

pub loop-b-init : goal.loop-b-init
loop-b-init c = (paging-start c.args.store.now, zero_room c.zero_walk-blocks.ensures)

made : (c : In-loop-b) → c.loop-b.b ≤ max_at c.args.store.now
made c = omega (arith, c.loop-b-test.true, max-is c.requires.known.known)

pub check_blocks-requires : goal.check_blocks-requires
check_blocks-requires c =
    walk-within c.loop-b.b (made (goal.at.check_blocks-requires c).In-loop-b) c.walk_bucket-count.ensures c.requires

pub returns-then-not-check_blocks : goal.returns-then-not-check_blocks
returns-then-not-check_blocks c =
    let s = c.args.store.now in
    let low = made (goal.at.returns-then-not-check_blocks c).In-loop-b in
    let test =
    no-page s c.loop-b.b low c.walk_bucket-count.ensures (sym c.check_blocks.ensures ∙ c.if-not-check_blocks.true) in
    sym (sym c.loop-b.invariant.0
    ∙ failed _ _ _ (left-turn (paged s) (suc (max_at s)) c.loop-b.b (omega (arith, low))) test)

pub check_distinct-requires : goal.check_distinct-requires
check_distinct-requires c = (
  walk-within c.loop-b.b (made (goal.at.check_distinct-requires c).In-loop-b) c.walk_bucket-count.ensures c.requires,
  sym c.check_blocks.ensures ∙ c.if-not-check_blocks.false,
)

pub returns-then-not-check_distinct : goal.returns-then-not-check_distinct
returns-then-not-check_distinct c =
    let s = c.args.store.now in
    let low = made (goal.at.returns-then-not-check_distinct c).In-loop-b in
    let test =
    pair-twice s c.loop-b.b low c.walk_bucket-count.ensures (sym c.check_blocks.ensures ∙ c.if-not-check_blocks.false)
    (sym c.check_distinct.ensures ∙ c.if-not-check_distinct.true) in
    sym (sym c.loop-b.invariant.0
    ∙ failed _ _ _ (left-turn (paged s) (suc (max_at s)) c.loop-b.b (omega (arith, low))) test)

pub loop-b-preserved : goal.loop-b-preserved
loop-b-preserved c =
    let s = c.args.store.now in
    let low = made (goal.at.loop-b-preserved c).In-loop-b in
    let test =
    all-paged s c.loop-b.b low c.walk_bucket-count.ensures (sym c.check_blocks.ensures ∙ c.if-not-check_blocks.false)
    (sym c.check_distinct.ensures ∙ c.if-not-check_distinct.false) in (
      passed _ _ _ (left-turn (paged s) (suc (max_at s)) c.loop-b.b (omega (arith, low))) test ∙ c.loop-b.invariant.0,
      c.walk_bucket-count.ensures.room,
    )

-- after the last bucket
pub returns-else-not-check_distinct : goal.returns-else-not-check_distinct
returns-else-not-check_distinct c =
    let s = c.args.store.now in
    let low = made (goal.at.returns-else-not-check_distinct c).In-loop-b in
    let test =
    all-paged s c.loop-b.b low c.walk_bucket-count.ensures (sym c.check_blocks.ensures ∙ c.if-not-check_blocks.false)
    (sym c.check_distinct.ensures ∙ c.if-not-check_distinct.false) in
    sym (left-done (paged s) (suc (max_at s)) (c.loop-b.b + 1) (omega (arith, max-is c.requires.known.known)))
    ∙ passed _ _ _ (left-turn (paged s) (suc (max_at s)) c.loop-b.b (omega (arith, low))) test ∙ c.loop-b.invariant.0
