use Rattle.std.proofs.Common.{List, ap, arith, ℕ, ◌∙◌}
use Rattle.endian.specs.Endian.{u32_at}
use Rattle.store.specs.Store.{number_at}
use Rattle.store.proofs.Parts.{length-of-block}
use Rattle.store.proofs.number_at.Goals as goal

pub get_u32-requires : goal.get_u32-requires
get_u32-requires c =
    omega (arith, length-of-block _ c.args.store.now 0 c.block_at.ensures c.requires)

pub returns : goal.returns
unfolding number_at
returns c = c.get_u32.ensures ∙ ap (λ (b : List ℕ). u32_at b 104) c.block_at.ensures
