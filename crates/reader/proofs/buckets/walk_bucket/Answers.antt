use Rattle.std.proofs.Common.{arith, subst, ℕ, ◌∙◌}
use Rattle.chain.specs.Walk.{Walked}
use Rattle.reader.specs.KnownLaws.{sized, known-addressed, max-is, bucket-is}
use Rattle.reader.proofs.buckets.walk_bucket.Goals as goal

pub home_of-requires : goal.home_of-requires
home_of-requires c = (known-addressed c.requires.0, c.requires.1)

pub walk_chain-requires : goal.walk_chain-requires
walk_chain-requires c = (sized c.requires.0, c.requires.2)

pub returns : goal.returns
returns c =
    let k = c.requires.0 in
    let home = c.home_of.ensures ∙ bucket-is k c.args.b (omega (arith, c.requires.1, max-is k)) in
    subst (λ (j : ℕ). Walked c.args.store.now j c.walk_chain.new.blocks c.walk_chain.result) home
    c.walk_chain.ensures
