-- The store after a draft is finished: the draft with every check written anew, and an index's bytes where its blocks
-- are the index's.
use Rattle.std.specs.Prelude.{◌≡◌, List, ℕ, ◌*◌, ◌/◌, ◌≤◌, ◌<◌, length, get_or}
use Rattle.std.proofs.Common.{sym, ap, ap₂, ◌∙◌, arith}
use Rattle.lists.specs.Lists.{bind, up_from}
use Rattle.lists.specs.Block.{blocks, block}
use Rattle.store.specs.declared.Change.{Change}
use Rattle.store.specs.Store.{covered, sealed, number_at}
use Rattle.store.specs.Change.{seals}
use Rattle.store.proofs.CheckLaws.{sealed-body}
use Rattle.store.proofs.ChangeLaws.{length-seals, block-seals, commits-ext}
use Rattle.store.specs.Finish.{finished_as, finished, resealed, Sealed}
use Rattle.store.proofs.FinishLaws.{bind-run, length-resealed, block-resealed}
use Rattle.model.specs.Index.{Index}
use Rattle.image.specs.Layout.{encode_block, sealed_block, encode}
use Rattle.draft.specs.Draft.{Draft}
use Rattle.draft.specs.DraftLaws.{length-draft, block-image, block-rest}

pub finished-draft : {s : List ℕ} {c : Change} {images d : List ℕ} → Draft s c images d → Sealed s
    → finished s c images ≡ resealed (number_at s) d
unfolding finished finished_as blocks
finished-draft {s} {c} {images} {d} g sound =
    let n : ℕ = c.count in
    let number : ℕ = number_at s in
    let same : blocks d ≡ blocks s = ap (λ (m : ℕ). m / 512) (length-draft g) in
    let whole : length d ≡ 512 * blocks d =
    length-draft g ∙ g.whole ∙ ap (λ (m : ℕ). 512 * m) (sym same) in
    let fits : 512 * n ≤ length images = omega (arith, g.eight, g.fits.few) in
    sym
    (commits-ext s c.numbers (seals number c.numbers images n) n g.fits
    (length-seals number c.numbers images n fits ∙ g.eight) (blocks s)
    (resealed number d) g.whole (length-resealed number d whole ∙ ap (λ (m : ℕ). 512 * m) same)
    (λ j h.
    block-resealed number d whole (get_or c.numbers j 0) (omega (arith, g.whole, g.fits.inside j h))
    ∙ ap (sealed number (get_or c.numbers j 0)) (block-image g j h)
    ∙ sym (block-seals number c.numbers images n fits j h))
    (λ k h free.
    block-resealed number d whole k (omega arith)
    ∙ ap (sealed number k) (block-rest g k h (λ w. free w.0 w.1 w.2))
    ∙ sound k h))

-- a draft whose bodies are an index's
pub resealed-encode : (number : ℕ) (d : List ℕ) (y : Index) → number ≡ y.number → blocks d ≡ y.size
    → ((k : ℕ) → k < y.size → covered (block d k) ≡ encode_block y k) → resealed number d ≡ encode y
unfolding resealed encode sealed_block
resealed-encode number d y same e h =
    ap₂ (λ (m n : ℕ). bind (up_from 0 n) (λ k. sealed m k (block d k))) same e
    ∙ bind-run (λ k. sealed y.number k (block d k)) (sealed_block y) 0 y.size
    (λ k l u. sealed-body y.number k (block d k) (encode_block y k) (h k (omega arith)))
