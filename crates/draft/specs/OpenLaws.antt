-- What stands at the place of an opened block.
use Rattle.std.specs.Prelude.{◌≡◌, List, ℕ}
use Rattle.std.proofs.Common.{sym, ap, ◌∙◌}
use Rattle.lists.specs.Block.{block}
use Rattle.store.specs.declared.Change.{Change}
use Rattle.draft.specs.Draft.{Draft}
use Rattle.draft.specs.DraftLaws.{block-image}
use Rattle.draft.specs.Open.{Opens}

-- its image is the draft's block
pub opened-block : {s : List ℕ} {c : Change} {images : List ℕ} {k at : ℕ} {r : Change} {images' d : List ℕ}
    → Opens s c images k at r images' → Draft s c images d → block images' at ≡ block d k
opened-block {at = at} {d = d} o g =
    sym (block-image (o.draft d g) at o.inside) ∙ ap (block d) o.names
