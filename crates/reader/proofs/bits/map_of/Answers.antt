use Rattle.std.proofs.Common.{ap, arith, ◌∙◌, ◌≡◌}
use Rattle.lists.specs.Block.{block}
use Rattle.address.specs.Address.{bit_block}
use Rattle.image.specs.Decode.{point_at, spares_at}
use Rattle.reader.specs.KnownLaws.{known-addressed, top-is, top-some, bit_is, bit-inside, block-whole}
use Rattle.reader.proofs.bits.map_of.Goals as goal

pub home_of_bit-requires : goal.home_of_bit-requires
home_of_bit-requires c = let k = c.requires in (known-addressed k, omega (arith, top-is k, top-some k))

pub block_at-requires : goal.block_at-requires
block_at-requires c =
    let s = c.args.store.now in
    let home : c.home_of_bit.result ≡ bit_block (spares_at s) (point_at s) 0 =
    c.home_of_bit.ensures ∙ bit_is c.requires 0 in
    block-whole c.requires c.home_of_bit.result (rw home (bit-inside c.requires 0 (omega (arith, top-some c.requires))))

pub returns : goal.returns
returns c = c.block_at.ensures ∙ ap (block c.args.store.now) (c.home_of_bit.ensures ∙ bit_is c.requires 0)
