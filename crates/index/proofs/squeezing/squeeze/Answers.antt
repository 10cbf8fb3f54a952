use Rattle.std.proofs.Common.{sym, ◌∙◌, arith}
use Rattle.std.proofs.lemmas.Result.{err_from_is_err_and}
use Rattle.journal.specs.Journal.{Disk, disk}
use Rattle.index.specs.ReadyLaws.{passing}
use Rattle.index.specs.SqueezeLaws.{all-early, squeeze-sound, squeeze-range, squeeze-fails, squeeze-passes}
use Rattle.index.proofs.squeezing.squeeze.Goals as goal

pub squeeze_sound-requires : goal.squeeze_sound-requires
squeeze_sound-requires c =
    let d : Disk = disk c.args.store.now c.args.journal.now in
    let good = sym c.in_ok-test_squeeze.ensures in (
      squeeze-sound d _ _ (λ i. omega (arith, c.slice_known-1.given i)) good,
      squeeze-range d _ _ (λ i. omega (arith, c.slice_known-1.given i)) good,
      (passing _ d (all-early d _ _ (λ i. omega (arith, c.slice_known-1.given i)) good)).journal,
    )

pub returns-in_err-test_squeeze : goal.returns-in_err-test_squeeze
returns-in_err-test_squeeze c =
    let a = c.args in
    let p = err_from_is_err_and c.from_residual.result c.from_residual.ensures.1 in
    rw (p.1, p.2)
    (squeeze-fails (disk a.store.now a.journal.now) a.bucket a.budget _ (sym c.in_err-test_squeeze.ensures))

-- as the steps were made, else by what is known of the answer's parts
pub returns : goal.returns
returns c =
    let a = c.args in
    let made = squeeze-passes (disk a.store.now a.journal.now) a.bucket a.budget (λ i. omega (arith, c.slice_known-1.given i))
    (sym c.in_ok-test_squeeze.ensures) ∙ c.squeeze_sound.ensures in
    first_of (simp made, grind (arith, made))
