use Rattle.std.proofs.Common.{suc, ◌<◌, length, sym, ap, ◌∙◌, arith, eq-eqb}
use Rattle.lists.specs.Block.{block}
use Rattle.address.specs.Address.{last_split}
use Rattle.store.specs.Store.{prev_at}
use Rattle.image.specs.Decode.{max_at, block_of}
use Rattle.reader.specs.KnownLaws.{max-is, bucket-full}
use Rattle.shape.specs.LoopLaws.{passed, left-turn}
use Rattle.entries.specs.Counts.{prev_ok}
use Rattle.entries.proofs.counts.check_prevs.Goals as goal

pub prev_at-requires : goal.prev_at-requires
prev_at-requires c =
    ap length c.bucket_page.ensures ∙ bucket-full c.requires c.loop-b.b (omega (arith, c.loop-b-test.true))

pub loop-b-preserved : goal.loop-b-preserved
loop-b-preserved c =
    let s = c.args.store.now in
    let b = c.loop-b.b in
    let more : b < suc (max_at s) = omega (arith, max-is c.requires, c.loop-b-test.true) in
    let prev = c.prev_at.ensures ∙ ap prev_at c.bucket_page.ensures in
    let last = c.last_split.ensures ∙ ap (λ n. last_split n b) (max-is c.requires) in
    let test =
    eq-eqb (prev_at (block s (block_of s b))) (last_split (max_at s) b)
    (sym prev ∙ c.if-prev_at-last_split.false ∙ last) in
    passed (prev_ok s b) _ _ (left-turn (prev_ok s) (suc (max_at s)) b more) test ∙ c.loop-b.invariant
