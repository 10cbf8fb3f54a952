use Rattle.std.proofs.Common.{ap, List, ℕ, ◌++◌, drop}
use Rattle.batch.specs.CallLaws.{take-lent, drop-lent}
use Rattle.batch.proofs.run_standing.Goals as goal

pub returns : goal.returns
returns c =
    let out = c.args.output.now in
    let e = c.min-n.ensures in
    let f = c.amiqsovik_standing.ensures in
    rw (← take-lent c.args.lent out e, ← drop-lent c.args.lent out e)
    (record { value = f.value; output_after = ap (λ (part : List ℕ). part ++ drop c.min-n.result out) f.res_after })
