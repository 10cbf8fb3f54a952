use Rattle.std.proofs.Common.{◌≡◌, ℕ, List, length, get_or, set, refl, arith, rules}
use lib.Seq.{get_or-set_same, get_or-set_other}
use Rattle.draft.proofs.Moving.{numbers-shifted}
use Rattle.draft.proofs.Shifting.{shift-insert}
use Rattle.draft.proofs.open.list_number.Goals as goal

pub returns : goal.returns
returns c =
    let a = c.args in
    let m = c.copy_within in
    let moved : List ℕ = m.new.self in
    let eight : length a.change.now.numbers ≡ 8 = search rules in
    let shifted = numbers-shifted a.change.now.numbers moved a.at a.change.now.count c.requires.0 m.ensures.by_index.1 m.ensures.by_index.0 in (
      refl,
      shift-insert _ _ a.at a.k (λ j. get_or moved j 0) (λ j. get_or (set moved a.at a.k) j 0) c.requires.0 shifted
          (get_or-set_same moved a.at a.k 0 (omega arith))
          (λ j b ne. get_or-set_other moved a.at j a.k 0 ne),
    )
