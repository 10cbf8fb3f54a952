use Rattle.std.proofs.Common.{List, ap, arith, ℕ, ◌∙◌}
use Rattle.image.specs.Decode.{bit_of}
use Rattle.reader.specs.KnownLaws.{top_small, map-full}
use Rattle.shape.proofs.Bitmaps.{bit-right}
use Rattle.shape.proofs.bits.check_bit.Goals as goal

pub bit_of-clear-requires : goal.bit_of-clear-requires
bit_of-clear-requires c =
    let k = c.requires.known2 in
    (map-full k.0 _ k.1, omega (arith, c.requires.n_bound, top_small k.0))

pub returns : goal.returns
returns c =
    let a = c.args in
    let bit = c.bit_of-clear.ensures ∙ ap (λ (l : List ℕ). bit_of l a.n) c.requires.known2.1 in
    bit-right a.store.now a.n c.bit_of-clear.result c.is_free.result bit c.is_free.ensures
