use Rattle.std.proofs.Common.{refl, ◌∙◌, List, ℕ, arith}
use Rattle.lists.specs.Block.{blocks}
use Rattle.store.specs.Store.{sealed}
use Rattle.outcomes.specs.Format.{format_block}
use Rattle.index.proofs.Blocks.{turn, written, length-formatted}
use Rattle.index.proofs.format.format_blocks.Goals as goal

pub loop-k-init : goal.loop-k-init
loop-k-init c = record { same_length = refl; formatted = λ j h. absurd (omega arith) }

pub format_block-requires : goal.format_block-requires
format_block-requires c = (omega arith, c.requires.1)

pub loop-k-preserved : goal.loop-k-preserved
unfolding blocks
loop-k-preserved c =
    let p = c.format_block in
    let l = c.loop-k in
    let a = c.args in
    let n = blocks a.store.now in
    let f : ℕ → List ℕ = λ k. sealed a.order.number k (format_block n a.order k) in
    record {
      same_length = p.auto.store ∙ l.invariant.same_length;
      formatted = turn f (length-formatted n a.order) l.store _ l.k p.ensures (omega arith) l.invariant.formatted;
    }

pub returns : goal.returns
unfolding blocks
returns c =
    let l = c.loop-k in
    let n = blocks c.args.store.now in
    let f : ℕ → List ℕ = λ k. sealed c.args.order.number k (format_block n c.args.order k) in
    written f (length-formatted n c.args.order) n l.store (l.invariant.same_length ∙ c.requires.0.whole)
    (λ j h. l.invariant.formatted j (omega arith))
