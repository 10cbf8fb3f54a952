use Rattle.std.proofs.Common.{◌≢◌, sym, ap, ◌∙◌, ◌≤◌, arith}
use Rattle.address.specs.Address.{split_from}
use Rattle.reader.specs.JobLaws.{old-low}
use Rattle.view.specs.ReadsLaws.{reads_sized, reads-max, reads_known}
use Rattle.plan.specs.SketchLaws.{sketch-none, ready}
use Rattle.split.specs.Job.{bucket_at, copied_draft}
use Rattle.split.specs.JobLaws.{at-inside, sketch-flags, old_apart, plans-copied}
use Rattle.split.proofs.job.plan_copied.Goals as goal

pub mark_bucket-requires : goal.mark_bucket-requires
mark_bucket-requires c =
    let s = c.args.store.now in
    let max = c.args.m.max in
    let r = c.requires.reads in
    let start = sketch-none (c.clear.ensures.by_index _ (reads_sized r).whole) c.clear.ensures.count_value in
    record {
      reads = (r, omega arith);
      by_index = (s, ready start (bucket_at s max) (at-inside r max (omega arith)) (omega arith));
    }

pub mark_bucket-requires-2 : goal.mark_bucket-requires-2
mark_bucket-requires-2 c =
    let s = c.args.store.now in
    let max = c.args.m.max in
    let r = c.requires.reads in
    let start = sketch-none (c.clear.ensures.by_index _ (reads_sized r).whole) c.clear.ensures.count_value in
    let one = sketch-flags r max (omega arith) start tt 2 c.mark_bucket.ensures in
    let old = c.parent_of.result in
    let low : old ≤ max = old-low (reads_known r) old c.parent_of.ensures in
    record { reads = (r, low); by_index = (_, ready one (bucket_at s old) (at-inside r old low) (omega arith)) }

pub drop_unchanged-requires : goal.drop_unchanged-requires
drop_unchanged-requires c =
    let s = c.args.store.now in
    let max = c.args.m.max in
    let r = c.requires.reads in
    let start = sketch-none (c.clear.ensures.by_index _ (reads_sized r).whole) c.clear.ensures.count_value in
    let one = sketch-flags r max (omega arith) start tt 2 c.mark_bucket.ensures in
    let old = c.parent_of.result in
    let low : old ≤ max = old-low (reads_known r) old c.parent_of.ensures in
    let is-old = c.parent_of.ensures ∙ ap split_from (reads-max r) in
    let apart : bucket_at s old ≢ bucket_at s max =
    λ q. old_apart r (ap (bucket_at s) (sym is-old) ∙ q ∙ ap (bucket_at s) (reads-max r)) in
    (sketch-flags r old low one (apart, tt) 66 c.mark_bucket-2.ensures).draft.fits

pub returns : goal.returns
returns c =
    let s = c.args.store.now in
    let max = c.args.m.max in
    let r = c.requires.reads in
    let start = sketch-none (c.clear.ensures.by_index _ (reads_sized r).whole) c.clear.ensures.count_value in
    let one = sketch-flags r max (omega arith) start tt 2 c.mark_bucket.ensures in
    let old = c.parent_of.result in
    let low : old ≤ max = old-low (reads_known r) old c.parent_of.ensures in
    let is-old = c.parent_of.ensures ∙ ap split_from (reads-max r) in
    let apart : bucket_at s old ≢ bucket_at s max =
    λ q. old_apart r (ap (bucket_at s) (sym is-old) ∙ q ∙ ap (bucket_at s) (reads-max r)) in
    let two = sketch-flags r old low one (apart, tt) 66 c.mark_bucket-2.ensures in
    plans-copied r max old (reads-max r) is-old c.requires.store_value.0 c.requires.store_value.1 two
    (c.drop_unchanged.ensures (copied_draft s max old) two.draft)
