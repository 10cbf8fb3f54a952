use Rattle.std.proofs.Common.{List, ap, arith, false, sym, true, ℕ, ◌∙◌, ◌≡◌}
use Rattle.lists.specs.Lists.{all, up_from}
use Rattle.lists.specs.Bytes.{part, all_zero}
use Rattle.image.specs.Rules.{map_at, rule6, bit_ok}
use Rattle.reader.specs.KnownLaws.{map-full}
use Rattle.shape.proofs.bits.check_bits.Goals as goal

pub returns-then-not-check_map : goal.returns-then-not-check_map
unfolding rule6
returns-then-not-check_map c =
    let bits : all (bit_ok c.args.store.now) (up_from 0 2048) ≡ false = sym c.check_map.ensures ∙ c.if-not-check_map.true in
    rw bits

pub is_zero-requires : goal.is_zero-requires
is_zero-requires c =
    (omega arith, omega (arith, map-full c.requires c.map_of.result.now c.map_of.ensures))

pub returns-then-not-is_zero : goal.returns-then-not-is_zero
unfolding rule6
returns-then-not-is_zero c =
    let bits : all (bit_ok c.args.store.now) (up_from 0 2048) ≡ true = sym c.check_map.ensures ∙ c.if-not-check_map.false in
    let zeros : all_zero (part 256 492 (map_at c.args.store.now)) ≡ c.is_zero.result =
    sym (c.is_zero.ensures ∙ ap (λ (l : List ℕ). all_zero (part 256 492 l)) c.map_of.ensures) in
    rw (bits, zeros ∙ c.if-not-is_zero.true)

pub returns : goal.returns
unfolding rule6
returns c =
    let bits : all (bit_ok c.args.store.now) (up_from 0 2048) ≡ true = sym c.check_map.ensures ∙ c.if-not-check_map.false in
    let zeros : all_zero (part 256 492 (map_at c.args.store.now)) ≡ c.is_zero.result =
    sym (c.is_zero.ensures ∙ ap (λ (l : List ℕ). all_zero (part 256 492 l)) c.map_of.ensures) in
    rw (bits, zeros ∙ c.if-not-is_zero.false) c.check_first.ensures
