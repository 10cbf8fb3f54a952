use Rattle.std.proofs.Common.{◌-◌, ◌<◌, arith, rules}
use Rattle.page.proofs.RuleLaws.{number-le}
use Rattle.page.proofs.Bisect.{start-inside, code_up, code-down, codes-split}
use Rattle.page.proofs.search.codes_below.Goals as goal

pub returns-then-high-low : goal.returns-then-high-low
returns-then-high-low c = omega (arith, start-inside c.args.p.now c.requires.0 c.args.code)

pub get_code-requires : goal.get_code-requires
get_code-requires c = (omega (arith, number-le c.args.p.now c.requires.0.number), c.requires.0.whole)

pub returns-then-code-from : goal.returns-then-code-from
returns-then-code-from c =
    omega (arith, code-down c.args.p.now c.requires.0 c.args.code c.args.low (omega arith) (omega arith))

pub get_code-requires-2 : goal.get_code-requires-2
get_code-requires-2 c = (omega (arith, number-le c.args.p.now c.requires.0.number), c.requires.0.whole)

pub returns-then-from-code : goal.returns-then-from-code
returns-then-from-code c =
    let l = c.args.p.now in
    let up = code_up l c.requires.0 c.args.code (c.count_entries-high.result - 1) (omega arith) (omega arith) in
    omega (arith, up, start-inside l c.requires.0 c.args.code)

pub bisect-requires-clause-ends : goal.bisect-requires-clause-ends
bisect-requires-clause-ends c = omega (arith, number-le c.args.p.now c.requires.0.number)

pub bisect-requires-clause-readable : goal.bisect-requires-clause-readable
bisect-requires-clause-readable c k low high =
    let inside : k < 40 = omega (arith, number-le c.args.p.now c.requires.0.number) in
    let whole = c.requires.0.whole in
    search rules

-- as the bisection tells, else by what follows it
pub returns : goal.returns
returns c =
    let l = c.args.p.now in
    let place = c.bisect.ensures _
    (codes-split l c.requires.0 c.args.code c.args.low c.count_entries-high.result c.requires.1
    c.count_entries-high.ensures (λ k r inside given. search rules)) in
    let end = start-inside l c.requires.0 c.args.code in
    first_of (omega (arith, place), grind (arith, place, end, number-le l c.requires.0.number))
