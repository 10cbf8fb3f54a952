use Rattle.std.proofs.Common.{ap, arith, length, sym, ℕ, ◌-◌, ◌/◌, ◌∙◌, ◌≡◌}
use Rattle.lists.specs.Lists.{b2n, tally, up_from}
use Rattle.lists.specs.Block.{blocks}
use Rattle.image.specs.Rules.{is_overflow}
use Rattle.reader.specs.KnownLaws.{sized}
use Rattle.shape.specs.LoopLaws.{run-turn, run-done}
use Rattle.shape.proofs.links.count_overflow.Goals as goal
use Rattle.shape.proofs.links.count_overflow.Goals.{else-is_overflow, then-is_overflow}

pub loop-k-init : goal.loop-k-init
loop-k-init c =
    let n = length c.args.store.now / 512 in
    let e : n - 0 ≡ n = omega arith in
    record { few = omega arith; left = omega (arith, ap (λ (j : ℕ). tally (is_overflow c.args.store.now) (up_from 0 j)) e) }

pub overflow_cast-k : goal.overflow_cast-k
unfolding blocks
overflow_cast-k c = omega (arith, (sized c.requires).few)

pub loop-k-preserved : goal.loop-k-preserved
loop-k-preserved c =
    let turn =
    ap (tally (is_overflow c.args.store.now)) (run-turn c.loop-k.k (length c.args.store.now / 512) c.loop-k-test.true) in
    let found = sym c.is_overflow.ensures in
    elim c.if-is_overflow.branch [
      | then-is_overflow w ↦
          record { few = omega arith; left = omega (arith, c.loop-k.invariant.left, turn, ap b2n (found ∙ w.if-is_overflow.true)) }
      | else-is_overflow w ↦
          record { few = omega arith; left = omega (arith, c.loop-k.invariant.left, turn, ap b2n (found ∙ w.if-is_overflow.false)) }
    ]

pub returns : goal.returns
unfolding blocks
returns c =
    let none = ap (tally (is_overflow c.args.store.now)) (run-done c.loop-k.k (length c.args.store.now / 512) c.loop-k-test.false) in
    omega (arith, c.loop-k.invariant.left, none)
