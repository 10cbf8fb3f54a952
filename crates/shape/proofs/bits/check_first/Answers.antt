use Rattle.std.proofs.Common.{List, Option, Some, None, ap, ap₂, eqb, sym, ℕ, ◌∙◌, ◌≡◌}
use Rattle.std.proofs.Math.Option.{get_or}
use Rattle.lists.specs.Lists.{find, up_from}
use Rattle.image.specs.declared.Meta.{Meta}
use Rattle.image.specs.Rules.{bit_at, map_at, top_at}
use Rattle.chain.specs.Bitmap.{free_or, lowest_free}
use Rattle.chain.specs.BitmapLaws.{free_or-rule}
use Rattle.reader.specs.KnownLaws.{known-addressed, top-is, map-full}
use Rattle.shape.proofs.bits.check_first.Goals as goal

-- the lowest 0 bit of the bitmap, as rule 6 has it
first : (s l : List ℕ) (free : Option ℕ) → l ≡ map_at s → free ≡ lowest_free l
    → get_or (find (λ n. eqb (bit_at s n) 0) (up_from 0 2048)) (top_at s) ≡ free_or (top_at s) free
first s l free at found = free_or-rule s (top_at s) ∙ ap (free_or (top_at s)) (sym (found ∙ ap lowest_free at))

pub lowest_free-requires : goal.lowest_free-requires
lowest_free-requires c = map-full c.requires c.map_of.result.now c.map_of.ensures

pub top_of-requires : goal.top_of-requires
top_of-requires c = known-addressed c.requires

pub returns-in-Some : goal.returns-in-Some
returns-in-Some c =
    let free = first c.args.store.now c.map_of.result.now (Some c.in-Some.n) c.map_of.ensures c.in-Some.ensures in
    ap₂ eqb (ap (λ (m : Meta). m.free) c.requires.meta) (sym free)

pub returns-in-None : goal.returns-in-None
returns-in-None c =
    let free = first c.args.store.now c.map_of.result.now None c.map_of.ensures c.in-None.ensures in
    ap₂ eqb (ap (λ (m : Meta). m.free) c.requires.meta) (c.top_of.ensures ∙ top-is c.requires ∙ sym free)
