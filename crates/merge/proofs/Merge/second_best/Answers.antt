use Rattle.std.proofs.Common.{get_or, refl, sym, ◌∙◌, ◌/◌, ◌*◌, ◌+◌, ◌-◌, arith}
use Rattle.merge.specs.SecondLaws.{climb-leaf, climb-here, climb-side, climbed}
use Rattle.merge.proofs.Merge.second_best.Goals as goal

pub loop-k-init : goal.loop-k-init
loop-k-init c = climb-leaf c.requires.2 c.args.j c.requires.0 c.if-n-eq1.false

pub loop-k-preserved-then-not-is_ahead : goal.loop-k-preserved-then-not-is_ahead
loop-k-preserved-then-not-is_ahead c =
    let r = c.loop-k.invariant in
    climb-side c.requires.2 c.args.j c.loop-k.k c.loop-k-test.true r.node.1 r.above c.loop-k.page c.loop-k.key r
    (get_or c.args.self.now.tree (4 * (c.loop-k.k / 2) + 1 - c.loop-k.k) 0) refl
    (sym c.is_ahead.ensures ∙ c.if-not-is_ahead.true)

pub loop-k-preserved : goal.loop-k-preserved
loop-k-preserved c =
    let r = c.loop-k.invariant in
    climb-here c.requires.2 c.args.j c.loop-k.k c.loop-k-test.true r.node.1 r.above c.loop-k.page c.loop-k.key r
    (get_or c.args.self.now.tree (4 * (c.loop-k.k / 2) + 1 - c.loop-k.k) 0) refl
    (sym c.is_ahead.ensures ∙ c.if-not-is_ahead.false)

pub returns : goal.returns
returns c =
    climbed c.requires.2 c.args.j c.loop-k.k c.loop-k.page c.loop-k.key (omega (arith, c.loop-k-test.false))
    c.loop-k.invariant
