use Rattle.std.proofs.Common.{ap₂, ℕ, ◌+◌, ◌*◌, arith}
use Rattle.lists.specs.Bytes.{part}
use Rattle.page.specs.Run.{run_of}
use Rattle.page.proofs.RunPartLaws.{run_fits}
use Rattle.page.proofs.search.run_from.Goals as goal

pub overflow_mul-result : goal.overflow_mul-result
overflow_mul-result c = omega (arith, run_fits c.args.p.now c.requires.0 c.args.h, c.requires.0.whole)

pub overflow_add-result : goal.overflow_add-result
overflow_add-result c = omega (arith, run_fits c.args.p.now c.requires.0 c.args.h, c.requires.0.whole)

pub overflow_mul-result-2 : goal.overflow_mul-result-2
overflow_mul-result-2 c = omega (arith, run_fits c.args.p.now c.requires.0 c.args.h, c.requires.0.whole)

pub overflow_add-result-2 : goal.overflow_add-result-2
overflow_add-result-2 c = omega (arith, run_fits c.args.p.now c.requires.0 c.args.h, c.requires.0.whole)

pub slice_bounds-result-end : goal.slice_bounds-result-end
slice_bounds-result-end c =
    omega (arith, run_fits c.args.p.now c.requires.0 c.args.h)

pub returns : goal.returns
unfolding run_of part
returns c =
    ap₂ (λ (a e : ℕ). part (4 + 12 * a) (4 + 12 * e) c.args.p.now) c.requires.1 c.run_end-end.ensures
