use Rattle.std.proofs.Common.{ap, ap₂, refl, sym, ◌∙◌}
use Rattle.address.specs.Address.{split_from}
use Rattle.model.specs.declared.Phase.{Phase}
use Rattle.reader.specs.KnownLaws.{max-is}
use Rattle.reader.specs.JobLaws.{old-low, new-flags, old-flags, phase-copying, phase-clearing, phase-none}
use Rattle.reader.proofs.job.read_job.Goals as goal

pub returns-then-bucket_flags-eq-POPULATED : goal.returns-then-bucket_flags-eq-POPULATED
returns-then-bucket_flags-eq-POPULATED c =
    let new = new-flags c.requires c.args.m.max c.bucket_flags.result c.bucket_flags.ensures refl in
    ap₂ Phase.Copying (c.parent_of-old.ensures ∙ ap split_from (max-is c.requires)) (max-is c.requires)
    ∙ sym (phase-copying c.args.store.now (sym new ∙ c.if-bucket_flags-eq-POPULATED.true))

pub bucket_flags-requires-2 : goal.bucket_flags-requires-2
bucket_flags-requires-2 c = (c.requires, old-low c.requires c.parent_of-old.result c.parent_of-old.ensures)

pub returns-then-bucket_flags-eq-CLEANUP : goal.returns-then-bucket_flags-eq-CLEANUP
returns-then-bucket_flags-eq-CLEANUP c =
    let new = new-flags c.requires c.args.m.max c.bucket_flags.result c.bucket_flags.ensures refl in
    let old =
    old-flags c.requires c.parent_of-old.result c.bucket_flags-2.result c.bucket_flags-2.ensures c.parent_of-old.ensures in
    ap₂ Phase.Clearing (c.parent_of-old.ensures ∙ ap split_from (max-is c.requires)) (max-is c.requires)
    ∙ sym (phase-clearing c.args.store.now (λ e. c.if-bucket_flags-eq-POPULATED.false (new ∙ e))
    (sym old ∙ c.if-bucket_flags-eq-CLEANUP.true))

pub returns : goal.returns
returns c =
    let new = new-flags c.requires c.args.m.max c.bucket_flags.result c.bucket_flags.ensures refl in
    let old =
    old-flags c.requires c.parent_of-old.result c.bucket_flags-2.result c.bucket_flags-2.ensures c.parent_of-old.ensures in
    sym (phase-none c.args.store.now (λ e. c.if-bucket_flags-eq-POPULATED.false (new ∙ e))
    (λ e. c.if-bucket_flags-eq-CLEANUP.false (old ∙ e)))
