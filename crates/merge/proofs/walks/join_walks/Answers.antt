use Rattle.std.proofs.Common.{List, ℕ, ◌++◌, refl, ap, ◌∙◌, arith, length-append}
use Rattle.std.proofs.lemmas.List.{take_at}
use Rattle.std.proofs.lemmas.Slice.{take-put_mid}
use Rattle.merge.proofs.walks.join_walks.Goals as goal

pub returns : goal.returns
returns c =
    let first = c.args.first.now in
    let second = c.args.second.now in
    rw (c.copy_from_slice.ensures.after, c.copy_from_slice-2.ensures.after)
    (take-put_mid _ _ _ second _ refl (simp length-append (omega arith))
    ∙ ap (λ (xs : List ℕ). xs ++ second) (take_at first _ _ refl))
