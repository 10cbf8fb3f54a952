use Rattle.std.proofs.Common.{◌≡◌, leb, length, ap, ap₂, sym, arith, rules, ◌∙◌}
use Rattle.std.proofs.lemmas.Grind.{common_steps}
use Rattle.address.specs.Address.{made, point}
use Rattle.image.specs.Rules.{meta_ok}
use Rattle.meta.specs.SparesLaws.{point-high}
use Rattle.meta.proofs.check_meta.Goals as goal

pub returns-then-check_spares : goal.returns-then-check_spares
unfolding meta_ok
returns-then-check_spares c =
    let m = c.args.m in
    let rest : meta_ok c.args.size m ≡ leb (made m.spares (point m.max)) c.args.size = grind (arith, common_steps) in
    ap₂ leb (c.made_blocks.ensures ∙ ap (made m.spares) c.point_of-s.ensures) c.from-then-check_spares.ensures ∙ sym rest

pub returns-else-check_spares : goal.returns-else-check_spares
unfolding meta_ok
returns-else-check_spares c =
    let m = c.args.m in
    let sixteen : length m.spares ≡ 16 = search rules in
    let high = point-high (point m.max) m.spares sixteen in
    grind (arith, common_steps, high)
