use Rattle.std.proofs.Common.{ap, arith, ℕ, ◌+◌, ◌∙◌, ◌≡◌}
use Rattle.address.specs.Address.{buckets_at, bit_block}
use Rattle.address.proofs.bit_block.Goals as goal

block-is : (c : goal.After-buckets_at) → c.buckets_at.result + c.args.bit + 1
    ≡ bit_block c.args.spares c.args.s c.args.bit
unfolding bit_block
block-is c =
    ap (λ (x : ℕ). x + c.args.bit + 1)
    (c.buckets_at.ensures ∙ ap buckets_at c.bit_point.ensures.0)

pub overflow_add-result : goal.overflow_add-result
overflow_add-result c = omega (arith, block-is c, c.requires.1)

pub overflow_add-result-2 : goal.overflow_add-result-2
overflow_add-result-2 c = omega (arith, block-is c, c.requires.1)

pub returns : goal.returns
returns c = block-is c
