use Rattle.std.proofs.Common.{sym, ◌∙◌, arith}
use Rattle.journal.specs.Journal.{disk}
use Rattle.index.specs.ReadyLaws.{ready-sound}
use Rattle.index.specs.SqueezeLaws.{early-passes}
use Rattle.index.proofs.squeezing.test_squeeze.Goals as goal

pub test_bucket-requires : goal.test_bucket-requires
test_bucket-requires c =
    ready-sound _ (disk c.args.store.now c.args.journal.now) (λ i. omega (arith, c.type_inv.store i)) (sym c.in_ok-test_ready.ensures)

pub returns : goal.returns
returns c =
    let a = c.args in
    c.test_bucket.ensures
    ∙ early-passes (disk a.store.now a.journal.now) a.bucket a.numbers (λ i. omega (arith, c.type_inv.store i)) (sym c.in_ok-test_ready.ensures)
