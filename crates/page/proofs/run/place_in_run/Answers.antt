use Rattle.std.proofs.Common.{ℕ, ◌+◌, ◌*◌, ◌≤◌, length, arith, rules}
use Rattle.lists.specs.Bytes.{Bytes}
use Rattle.page.proofs.RunPartLaws.{length-run_entries}
use Rattle.page.proofs.Bisect.{Sought, places-split}
use Rattle.page.proofs.run.place_in_run.Goals as goal

pub bisect-requires-clause-ends : goal.bisect-requires-clause-ends
bisect-requires-clause-ends c = omega (arith, length-run_entries c.args.run.now, c.requires.few)

pub bisect-requires-clause-readable : goal.bisect-requires-clause-readable
bisect-requires-clause-readable c k low high =
    let inside : 12 * k + 12 ≤ length c.args.run.now = omega (arith, length-run_entries c.args.run.now) in
    search rules

pub returns : goal.returns
returns c =
    let r = c.args.run.now in
    let x = c.args.x in
    let key : ℕ = c.from.result * 65536 + c.from-2.result in
    let bytes : Bytes r = λ i. omega (arith, c.type_inv.run i) in
    let sought : Sought r key x = record { named = omega arith; fits = omega arith; one = c.requires } in
    c.bisect.ensures _
    (places-split r bytes key x sought c.count_run.result c.count_run.ensures (λ k m inside given. search rules))
