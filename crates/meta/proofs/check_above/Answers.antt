use Rattle.std.proofs.Common.{◌≡◌, ◌==◌, List, ℕ, suc, ◌+◌, ◌-◌, length, take, drop, take_all, length-drop, add-one, rules, tests, arith, ap, ◌∙◌}
use Rattle.std.specs.List.{list_all}
use Rattle.std.proofs.lemmas.Iterator.{YieldsList-from_slice}
use Rattle.std.proofs.lemmas.Iterator.Search.{all_from_yields_List}
use Rattle.lists.specs.Bytes.{all_zero}
use Rattle.endian.proofs.PutLaws.{list_all-all}
use Rattle.meta.proofs.check_above.Goals as goal

pub returns : goal.returns
unfolding all_zero
returns c =
    let a = c.args in
    let sixteen : length a.spares ≡ 16 = search rules in
    let read : List ℕ = take (16 - (a.s + 1)) (drop (a.s + 1) a.spares) in
    let above : read ≡ drop (suc a.s) a.spares =
    take_all _ _ (omega (arith, length-drop (a.s + 1) a.spares)) ∙ ap (λ (n : ℕ). drop n a.spares) (add-one a.s) in
    let test : c.all.result ≡ list_all (λ x. x == 0) read =
    all_from_yields_List (λ x. x == 0) _ _ c.all.result c.all.ensures.ran (YieldsList-from_slice read cc)
    (λ x b q k. search (rules, tests)) in
    test ∙ ap (list_all (λ x. x == 0)) above ∙ list_all-all (λ x. x == 0) (drop (suc a.s) a.spares)
