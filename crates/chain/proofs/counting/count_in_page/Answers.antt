use Rattle.std.proofs.Common.{arith, false, sym, true, ◌∙◌, ◌≡◌}
use Rattle.chain.specs.Pairs.{is_match}
use Rattle.chain.proofs.Tallies.{count-few, count-run}
use Rattle.chain.proofs.counting.count_in_page.Goals as goal

pub returns-then-fresh : goal.returns-then-fresh
returns-then-fresh c =
    let f : c.args.fresh ≡ true = c.if-fresh.true in
    rw f c.count_fresh.ensures

pub overflow_cast-result : goal.overflow_cast-result
overflow_cast-result c =
    let all = count-run c.requires c.args.hash c.find_run.ensures.0 in
    omega (arith, all, c.count_run.ensures, count-few c.requires (is_match c.args.hash false))

pub returns : goal.returns
returns c =
    let f : c.args.fresh ≡ false = c.if-fresh.false in
    rw f (c.count_run.ensures ∙ sym (count-run c.requires c.args.hash c.find_run.ensures.0))
