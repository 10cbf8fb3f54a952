use Rattle.std.proofs.Common.{ap, arith, refl, sym, ◌∙◌, ◌≡◌}
use Rattle.chain.specs.Bitmap.{ones_from}
use Rattle.chain.specs.BitmapLaws.{ones-broken, ones-later, ones-byte}
use Rattle.chain.proofs.bitmap.all_ones.Goals as goal

pub ones_end-end-requires : goal.ones_end-end-requires
ones_end-end-requires c = c.requires

pub loop-n-init : goal.loop-n-init
loop-n-init c = (c.ones_end-end.ensures.0, refl)

pub overflow_cast-n : goal.overflow_cast-n
overflow_cast-n c = omega arith

pub bounds-map-n : goal.bounds-map-n
bounds-map-n c = omega arith

pub overflow_mul-n : goal.overflow_mul-n
overflow_mul-n c = omega arith

pub overflow_add-n : goal.overflow_add-n
overflow_add-n c = omega arith

pub loop-n-smaller-then-map-n : goal.loop-n-smaller-then-map-n
loop-n-smaller-then-map-n c = omega arith

pub loop-n-preserved-then-map-n : goal.loop-n-preserved-then-map-n
loop-n-preserved-then-map-n c =
    let map = c.args.map.now in
    (omega arith, c.loop-n.invariant.1 ∙ ones-byte map c.loop-n.n (omega arith) c.if-map-n.true)

pub bit_of-requires : goal.bit_of-requires
bit_of-requires c =
    (c.requires.0, omega (arith, c.loop-n-test.true, c.ones_end-end.ensures.1))

pub returns-then-bit_of-eq0 : goal.returns-then-bit_of-eq0
returns-then-bit_of-eq0 c =
    let map = c.args.map.now in
    sym (c.loop-n.invariant.1 ∙ ones-broken map c.loop-n.n (omega arith) (sym c.bit_of.ensures
    ∙ c.if-bit_of-eq0.true))

pub overflow_add-n-else-map-n : goal.overflow_add-n-else-map-n
overflow_add-n-else-map-n c = omega arith

pub loop-n-smaller : goal.loop-n-smaller
loop-n-smaller c = omega arith

pub loop-n-preserved : goal.loop-n-preserved
loop-n-preserved c =
    let map = c.args.map.now in (
      omega arith,
      c.loop-n.invariant.1
          ∙ ones-later map c.loop-n.n (omega arith) (λ e. c.if-bit_of-eq0.false (c.bit_of.ensures ∙ e)),
    )

pub returns : goal.returns
returns c =
    let map = c.args.map.now in
    let o = c.ones_end-end in
    let e : c.loop-n.n ≡ o.result = omega arith in
    sym (c.loop-n.invariant.1 ∙ ap (ones_from map) e ∙ o.ensures.3)
