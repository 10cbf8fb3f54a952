use Rattle.std.proofs.Common.{◌≡◌, arith, sym, ◌∙◌}
use Rattle.std.proofs.lemmas.Grind.{common_steps}
use Rattle.lists.specs.Bytes.{part, all_zero}
use Rattle.image.specs.Rules.{front_ok}
use Rattle.meta.proofs.check_front.Goals as goal

pub returns-then-is_zero : goal.returns-then-is_zero
unfolding front_ok
returns-then-is_zero c =
    let l = c.args.part.now in
    let rest : front_ok c.args.size l ≡ all_zero (part 108 492 l) = grind (arith, common_steps) in
    c.is_zero-then-is_zero.ensures ∙ sym rest

pub returns-else-is_zero : goal.returns-else-is_zero
unfolding front_ok
returns-else-is_zero c = grind (arith, common_steps)
