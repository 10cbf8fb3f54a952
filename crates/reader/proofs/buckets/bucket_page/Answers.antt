use Rattle.std.proofs.Common.{ap, arith, ◌∙◌, ◌≡◌, ◌≤◌}
use Rattle.lists.specs.Block.{block}
use Rattle.image.specs.Decode.{max_at, block_of}
use Rattle.reader.specs.KnownLaws.{known-addressed, max-is, bucket-is, bucket-inside, block-whole}
use Rattle.reader.proofs.buckets.bucket_page.Goals as goal

pub home_of-requires : goal.home_of-requires
home_of-requires c = (known-addressed c.requires.0, c.requires.1)

pub block_at-requires : goal.block_at-requires
block_at-requires c =
    let k = c.requires.0 in
    let low : c.args.b ≤ max_at c.args.store.now = omega (arith, max-is k, c.requires.1) in
    let home : c.home_of.result ≡ block_of c.args.store.now c.args.b = c.home_of.ensures ∙ bucket-is k c.args.b low in
    block-whole k c.home_of.result (rw home (bucket-inside k c.args.b low))

pub returns : goal.returns
returns c =
    let low : c.args.b ≤ max_at c.args.store.now = omega (arith, max-is c.requires.0, c.requires.1) in
    c.block_at.ensures ∙ ap (block c.args.store.now) (c.home_of.ensures ∙ bucket-is c.requires.0 c.args.b low)
