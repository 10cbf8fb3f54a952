use Rattle.std.proofs.Common.{ap, ◌∙◌, ◌≤◌, arith}
use Rattle.address.specs.Address.{split_from}
use Rattle.reader.specs.JobLaws.{old-low}
use Rattle.view.specs.ReadsLaws.{reads_sized, reads-max, reads_known}
use Rattle.plan.specs.SketchLaws.{sketch-none, ready}
use Rattle.split.specs.Job.{bucket_at, cleared_draft}
use Rattle.split.specs.JobLaws.{at-inside, sketch-flags, plans-cleared}
use Rattle.split.proofs.job.plan_cleared.Goals as goal

pub mark_bucket-requires : goal.mark_bucket-requires
mark_bucket-requires c =
    let s = c.args.store.now in
    let r = c.requires.reads in
    let old = c.parent_of.result in
    let low : old ≤ c.args.m.max = old-low (reads_known r) old c.parent_of.ensures in
    let start = sketch-none (c.clear.ensures.by_index _ (reads_sized r).whole) c.clear.ensures.count_value in
    record { reads = (r, low); by_index = (s, ready start (bucket_at s old) (at-inside r old low) (omega arith)) }

pub drop_unchanged-requires : goal.drop_unchanged-requires
drop_unchanged-requires c =
    let r = c.requires.reads in
    let old = c.parent_of.result in
    let low : old ≤ c.args.m.max = old-low (reads_known r) old c.parent_of.ensures in
    let start = sketch-none (c.clear.ensures.by_index _ (reads_sized r).whole) c.clear.ensures.count_value in
    (sketch-flags r old low start tt 2 c.mark_bucket.ensures).draft.fits

pub returns : goal.returns
returns c =
    let r = c.requires.reads in
    let old = c.parent_of.result in
    let low : old ≤ c.args.m.max = old-low (reads_known r) old c.parent_of.ensures in
    let start = sketch-none (c.clear.ensures.by_index _ (reads_sized r).whole) c.clear.ensures.count_value in
    let one = sketch-flags r old low start tt 2 c.mark_bucket.ensures in
    plans-cleared r old (c.parent_of.ensures ∙ ap split_from (reads-max r)) c.requires.store_value.0
    c.requires.store_value.1 one (c.drop_unchanged.ensures (cleared_draft c.args.store.now old) one.draft)
