use Rattle.std.proofs.Common.{ap, arith, length, not, sym, true, ◌<◌, ◌∙◌, ◌≤◌}
use Rattle.lists.specs.Lists.{b2n}
use Rattle.page.specs.declared.Entry.{Entry}
use Rattle.page.specs.Places.{run_entries}
use Rattle.page.proofs.RunPartLaws.{length-run_entries}
use Rattle.chain.specs.Pairs.{is_match}
use Rattle.chain.proofs.Tallies.{count-few, fresh_start, fresh-turn, fresh-end}
use Rattle.chain.proofs.counting.count_fresh.Goals as goal

pub loop-i-init : goal.loop-i-init
loop-i-init c = omega (arith, fresh_start c.requires c.args.hash c.find_run-run.ensures.0)

pub run_entry-requires : goal.run_entry-requires
run_entry-requires c =
    omega (arith, c.loop-i-test.true, c.count_run-count.ensures, length-run_entries c.find_run-run.result.now)

pub overflow_add-n : goal.overflow_add-n
overflow_add-n c =
    let run = c.find_run-run.result.now in
    let more : c.loop-i.i < length (run_entries run) = omega (arith, c.loop-i-test.true, c.count_run-count.ensures) in
    let turn = fresh-turn run c.loop-i.i c.loop-i.n _ c.loop-i.invariant more c.count_unmoved-n.result
    (c.count_unmoved-n.ensures ∙ ap (λ (e : Entry). b2n (not e.moved)) c.run_entry.ensures) in
    omega (arith, turn, count-few c.requires (is_match c.args.hash true))

pub loop-i-preserved : goal.loop-i-preserved
loop-i-preserved c =
    let run = c.find_run-run.result.now in
    let more : c.loop-i.i < length (run_entries run) = omega (arith, c.loop-i-test.true, c.count_run-count.ensures) in
    fresh-turn run c.loop-i.i c.loop-i.n _ c.loop-i.invariant more c.count_unmoved-n.result
    (c.count_unmoved-n.ensures ∙ ap (λ (e : Entry). b2n (not e.moved)) c.run_entry.ensures)

pub returns : goal.returns
returns c =
    let run = c.find_run-run.result.now in
    let past : length (run_entries run) ≤ c.loop-i.i = omega (arith, c.loop-i-test.false, c.count_run-count.ensures) in
    sym (fresh-end run c.loop-i.i c.loop-i.n _ c.loop-i.invariant past)
