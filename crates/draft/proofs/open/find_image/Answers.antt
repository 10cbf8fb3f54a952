use Rattle.std.proofs.Common.{◌≡◌, length, arith, rules}
use Rattle.draft.proofs.Searching.{place-found}
use Rattle.draft.proofs.open.find_image.Goals as goal

pub returns : goal.returns
returns c =
    let numbers = c.args.change.numbers in
    let eight : length numbers ≡ 8 = search rules in
    place-found c.requires.0 numbers c.args.change.count c.args.k _ c.requires.1 (omega (arith, c.requires.1.few))
    c.binary_search.ensures.position
