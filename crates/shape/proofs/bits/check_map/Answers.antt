use Rattle.std.proofs.Common.{Bool, ap, ap₂, arith, sym, ◌&&◌, ◌∙◌, ◌≤◌}
use Rattle.image.specs.Rules.{map_at, top_at}
use Rattle.chain.specs.Bitmap.{ones_from}
use Rattle.reader.specs.KnownLaws.{known-addressed, top-is, top_small, map-full}
use Rattle.shape.proofs.Bitmaps.{map-split}
use Rattle.shape.proofs.bits.check_map.Goals as goal

pub returns-then-not-check_made : goal.returns-then-not-check_made
returns-then-not-check_made c =
    let s = c.args.store.now in
    let bad = sym c.check_made.ensures ∙ c.if-not-check_made.true in
    let inside : top_at s ≤ 2048 = omega (arith, top_small c.requires) in
    sym (map-split s inside ∙ ap (λ (b : Bool). b && ones_from (map_at s) (top_at s)) bad)

pub top_of-requires : goal.top_of-requires
top_of-requires c = known-addressed c.requires

pub all_ones-requires : goal.all_ones-requires
all_ones-requires c =
    let inside : top_at c.args.store.now ≤ 2048 = omega (arith, top_small c.requires) in (
      map-full c.requires c.map_of-map.result.now c.map_of-map.ensures,
      omega (arith, c.top_of.ensures ∙ top-is c.requires, inside),
    )

pub returns : goal.returns
returns c =
    let s = c.args.store.now in
    let good = sym c.check_made.ensures ∙ c.if-not-check_made.false in
    let inside : top_at s ≤ 2048 = omega (arith, top_small c.requires) in
    c.all_ones.ensures
    ∙ ap₂ ones_from c.map_of-map.ensures (c.top_of.ensures ∙ top-is c.requires)
    ∙ sym (map-split s inside ∙ ap (λ (b : Bool). b && ones_from (map_at s) (top_at s)) good)
