use Rattle.std.proofs.Common.{ap, arith, not, sym, ◌∙◌}
use Rattle.image.specs.Rules.{is_overflow}
use Rattle.reader.specs.KnownLaws.{known-addressed, top-is, bit_is}
use Rattle.shape.proofs.Bitmaps.{free-first, free-made}
use Rattle.shape.proofs.bits.is_free.Goals as goal

pub returns-then-n-eq0 : goal.returns-then-n-eq0
returns-then-n-eq0 c = let a = c.args in sym (free-first a.store.now a.n c.if-n-eq0.true)

pub home_of_bit-requires : goal.home_of_bit-requires
home_of_bit-requires c =
    (known-addressed c.requires.0, omega (arith, c.requires.1, top-is c.requires.0))

pub is_overflow-requires : goal.is_overflow-requires
is_overflow-requires c = c.requires.0

pub returns : goal.returns
returns c =
    let h = c.home_of_bit.ensures ∙ bit_is c.requires.0 c.args.n in
    ap not (c.is_overflow.ensures ∙ ap (is_overflow c.args.store.now) h)
    ∙ sym (free-made c.args.store.now c.args.n c.if-n-eq0.false c.requires.1)
