use Rattle.std.proofs.Common.{◌≡◌, Bool, true, false, refl, sym, ◌∙◌}
use Rattle.std.proofs.lemmas.Result.{err_from_is_err_and}
use Rattle.image.specs.Rules.{rule3, rule4, rule5, rule6, rule7, rule8, rules, lowest_broken}
use Rattle.verify.specs.Tests.{tested_as}
use Rattle.verify.proofs.Judging.{goes-on, ends}
use Rattle.verify.proofs.judge_blocks.Goals as goal

pub returns-in_err-keeps : goal.returns-in_err-keeps
unfolding lowest_broken rules
returns-in_err-keeps c =
    let p = err_from_is_err_and c.from_residual.result c.from_residual.ensures.1 in
    let end = ends _ _ _ c.in_err-keeps.ensures in
    let broken : rule3 c.args.store.now ≡ false = sym c.check_roles.ensures ∙ end.0 in
    rw (p.1, p.2, end.1, c.requires.0, c.requires.1.holds, broken)

pub returns-in_err-keeps-2 : goal.returns-in_err-keeps-2
unfolding lowest_broken rules
returns-in_err-keeps-2 c =
    let p = err_from_is_err_and c.from_residual-in_err-keeps-2.result c.from_residual-in_err-keeps-2.ensures.1 in
    let three : rule3 c.args.store.now ≡ true =
    sym c.check_roles.ensures ∙ goes-on _ _ _ c.in_ok-keeps.ensures in
    let end = ends _ _ _ c.in_err-keeps-2.ensures in
    let broken : rule4 c.args.store.now ≡ false = sym c.check_links.ensures ∙ end.0 in
    rw (p.1, p.2, end.1, c.requires.0, c.requires.1.holds, three, broken)

pub returns-in_err-keeps-3 : goal.returns-in_err-keeps-3
unfolding lowest_broken rules
returns-in_err-keeps-3 c =
    let p = err_from_is_err_and c.from_residual-in_err-keeps-3.result c.from_residual-in_err-keeps-3.ensures.1 in
    let three : rule3 c.args.store.now ≡ true =
    sym c.check_roles.ensures ∙ goes-on _ _ _ c.in_ok-keeps.ensures in
    let four : rule4 c.args.store.now ≡ true =
    sym c.check_links.ensures ∙ goes-on _ _ _ c.in_ok-keeps-2.ensures in
    let end = ends _ _ _ c.in_err-keeps-3.ensures in
    let broken : rule5 c.args.store.now ≡ false = sym c.check_pages.ensures ∙ end.0 in
    rw (p.1, p.2, end.1, c.requires.0, c.requires.1.holds, three, four, broken)

pub returns-in_err-keeps-4 : goal.returns-in_err-keeps-4
unfolding lowest_broken rules
returns-in_err-keeps-4 c =
    let p = err_from_is_err_and c.from_residual-in_err-keeps-4.result c.from_residual-in_err-keeps-4.ensures.1 in
    let three : rule3 c.args.store.now ≡ true =
    sym c.check_roles.ensures ∙ goes-on _ _ _ c.in_ok-keeps.ensures in
    let four : rule4 c.args.store.now ≡ true =
    sym c.check_links.ensures ∙ goes-on _ _ _ c.in_ok-keeps-2.ensures in
    let five : rule5 c.args.store.now ≡ true =
    sym c.check_pages.ensures ∙ goes-on _ _ _ c.in_ok-keeps-3.ensures in
    let end = ends _ _ _ c.in_err-keeps-4.ensures in
    let broken : rule6 c.args.store.now ≡ false = sym c.check_bits.ensures ∙ end.0 in
    rw (p.1, p.2, end.1, c.requires.0, c.requires.1.holds, three, four, five, broken)

pub returns-in_err-keeps-5 : goal.returns-in_err-keeps-5
unfolding lowest_broken rules
returns-in_err-keeps-5 c =
    let p = err_from_is_err_and c.from_residual-in_err-keeps-5.result c.from_residual-in_err-keeps-5.ensures.1 in
    let three : rule3 c.args.store.now ≡ true =
    sym c.check_roles.ensures ∙ goes-on _ _ _ c.in_ok-keeps.ensures in
    let four : rule4 c.args.store.now ≡ true =
    sym c.check_links.ensures ∙ goes-on _ _ _ c.in_ok-keeps-2.ensures in
    let five : rule5 c.args.store.now ≡ true =
    sym c.check_pages.ensures ∙ goes-on _ _ _ c.in_ok-keeps-3.ensures in
    let six : rule6 c.args.store.now ≡ true =
    sym c.check_bits.ensures ∙ goes-on _ _ _ c.in_ok-keeps-4.ensures in
    let end = ends _ _ _ c.in_err-keeps-5.ensures in
    let broken : rule7 c.args.store.now ≡ false = sym c.check_places.ensures ∙ end.0 in
    rw (p.1, p.2, end.1, c.requires.0, c.requires.1.holds, three, four, five, six, broken)

pub returns : goal.returns
unfolding lowest_broken rules
returns c = go c.check_counts.result refl
  where
    three : rule3 c.args.store.now ≡ true
    three = sym c.check_roles.ensures ∙ goes-on _ _ _ c.in_ok-keeps.ensures

    four : rule4 c.args.store.now ≡ true
    four = sym c.check_links.ensures ∙ goes-on _ _ _ c.in_ok-keeps-2.ensures

    five : rule5 c.args.store.now ≡ true
    five = sym c.check_pages.ensures ∙ goes-on _ _ _ c.in_ok-keeps-3.ensures

    six : rule6 c.args.store.now ≡ true
    six = sym c.check_bits.ensures ∙ goes-on _ _ _ c.in_ok-keeps-4.ensures

    seven : rule7 c.args.store.now ≡ true
    seven = sym c.check_places.ensures ∙ goes-on _ _ _ c.in_ok-keeps-5.ensures

    go : (b : Bool) → c.check_counts.result ≡ b → c.keeps-6.result ≡ tested_as (lowest_broken c.args.store.now)
    go true e =
        let eight : rule8 c.args.store.now ≡ true = sym c.check_counts.ensures ∙ e in
        c.keeps-6.ensures
        ∙ rw (e, c.requires.0, c.requires.1.holds, three, four, five, six, seven, eight)
    go false e =
        let eight : rule8 c.args.store.now ≡ false = sym c.check_counts.ensures ∙ e in
        c.keeps-6.ensures
        ∙ rw (e, c.requires.0, c.requires.1.holds, three, four, five, six, seven, eight)
