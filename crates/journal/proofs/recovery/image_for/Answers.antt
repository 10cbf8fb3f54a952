use Rattle.std.proofs.Common.{◌≡◌, true, subst, ℕ, ◌<◌, List, MatchOption, rules}
use Rattle.std.proofs.Math.Option.{none, some}
use Rattle.journal.specs.Journal.{disk, holds, image_for}
use Rattle.journal.proofs.ValidLaws.{holds-held}
use Rattle.journal.proofs.recovery.image_for.Goals as goal

pub find_image-requires : goal.find_image-requires
find_image-requires c =
    let d = disk c.args.store.now c.in-Some.journal.now in
    let h : holds d ≡ true = search rules in
    (holds-held d h).few

pub returns : goal.returns
returns c =
    let s = c.args.store.now in
    let k = c.args.k in
    let h : holds (disk s c.in-Some.journal.now) ≡ true = search rules in
    subst
    (λ (j : List ℕ).
    MatchOption c.find_image.result (image_for (holds (disk s j)) j k ≡ none)
    (λ n. (n < 14) × (image_for (holds (disk s j)) j k ≡ some n)))
    c.in-Some.ensures.cases.same (rw h c.find_image.ensures)
