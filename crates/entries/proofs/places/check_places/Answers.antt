use Rattle.std.proofs.Common.{sym, ◌∙◌}
use Rattle.shape.specs.LoopLaws.{passed, failed}
use Rattle.entries.proofs.Homing.{places-parts}
use Rattle.entries.proofs.places.check_places.Goals as goal

pub returns-then-not-check_chains : goal.returns-then-not-check_chains
returns-then-not-check_chains c =
    sym (failed _ _ _ (places-parts c.args.store.now c.read_job-phase.result c.read_job-phase.ensures)
    (sym c.check_chains.ensures ∙ c.if-not-check_chains.true))

pub returns : goal.returns
returns c =
    c.check_marks.ensures
    ∙ passed _ _ _ (places-parts c.args.store.now c.read_job-phase.result c.read_job-phase.ensures)
    (sym c.check_chains.ensures ∙ c.if-not-check_chains.false)
