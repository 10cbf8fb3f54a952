use Rattle.std.proofs.Common.{◌≡◌, sym, ap, ap₂, ◌∙◌, Bool, true, false, not, ◌&&◌, Option, is_some}
use Rattle.image.specs.Decode.{decode}
use Rattle.chain.specs.declared.Found.{Found}
use Rattle.chain.specs.Search.{find_in}
use Rattle.view.specs.ReadsLaws.{reads-max}
use Rattle.split.proofs.search.is_uncopied.Goals as goal

pub returns-then-not-is_moving : goal.returns-then-not-is_moving
returns-then-not-is_moving c =
    let a = c.args in
    ap (λ (b : Bool). b && not (is_some (find_in a.store.now a.copies.now a.e.pair)))
    (sym c.if-not-is_moving.true ∙ c.is_moving.ensures (decode a.store.now) (reads-max c.requires.0))

turned : (r b : Bool) → b ≡ not r → r ≡ not b
turned true b h = sym (ap not h)
turned false b h = sym (ap not h)

pub returns : goal.returns
returns c =
    turned _ _ c.is_none.ensures
    ∙ ap₂ (λ (b : Bool) (f : Option Found). b && not (is_some f))
    (sym c.if-not-is_moving.false ∙ c.is_moving.ensures (decode c.args.store.now) (reads-max c.requires.0))
    c.find_pair.ensures
