use Rattle.std.proofs.Common.{Bool, List, ℕ, ap, subst, sym, ◌∙◌, arith}
use Rattle.lists.specs.Lists.{all}
use Rattle.address.specs.Address.{bucket_of}
use Rattle.page.specs.declared.Entry.{Entry}
use Rattle.page.specs.Allowed.{Sorted}
use Rattle.page.specs.Entries.{entries_of}
use Rattle.entries.specs.declared.Bucket.{Bucket}
use Rattle.chain.specs.WithinLaws.{block-whole, block-sorted}
use Rattle.shape.specs.LoopLaws.{passed, failed}
use Rattle.entries.specs.Tests.{stands_in}
use Rattle.entries.proofs.Walking.{all-turn, all_done}
use Rattle.entries.proofs.places.check_walk_places.Goals as goal

abbrev may : Bucket → Entry → Bool
may b e = stands_in b.phase (bucket_of b.max e.pair.hash) b.number

pub block_at-requires : goal.block_at-requires
block_at-requires c = omega (arith, block-whole c.requires.0 c.loop-block.block-index c.loop-block-test.true)

pub check_page_places-requires : goal.check_page_places-requires
check_page_places-requires c =
    subst Sorted (sym c.block_at.ensures)
    (block-sorted c.requires.0 c.loop-block.block-index c.loop-block-test.true c.requires.1)

pub returns-then-not-check_page_places : goal.returns-then-not-check_page_places
returns-then-not-check_page_places c =
    let t = may c.args.bucket in
    let turn =
    all-turn c.args.store.now c.args.walk.now t c.loop-block.block-index c.loop-block-test.true c.check_page_places.result
    (c.check_page_places.ensures ∙ ap (λ (l : List ℕ). all t (entries_of l)) c.block_at.ensures) in
    sym (sym c.loop-block.invariant ∙ failed _ _ _ turn c.if-not-check_page_places.true)

pub loop-block-preserved : goal.loop-block-preserved
loop-block-preserved c =
    let t = may c.args.bucket in
    let turn =
    all-turn c.args.store.now c.args.walk.now t c.loop-block.block-index c.loop-block-test.true c.check_page_places.result
    (c.check_page_places.ensures ∙ ap (λ (l : List ℕ). all t (entries_of l)) c.block_at.ensures) in
    passed _ _ _ turn c.if-not-check_page_places.false ∙ c.loop-block.invariant

pub returns : goal.returns
returns c =
    let t = may c.args.bucket in
    sym (sym c.loop-block.invariant
    ∙ all_done c.args.store.now c.args.walk.now t c.loop-block.block-index c.loop-block-test.false)
