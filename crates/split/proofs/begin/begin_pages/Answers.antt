use Rattle.std.proofs.Common.{sym, ap, ◌∙◌, subst, ℕ, ◌≤◌, ◌<◌, arith}
use Rattle.lists.specs.Block.{blocks}
use Rattle.address.specs.Address.{split_from}
use Rattle.image.specs.Decode.{decode}
use Rattle.reader.specs.KnownLaws.{known-addressed, max-is, bucket-is}
use Rattle.view.specs.ReadsLaws.{reads_known, reads_sized, reads-low}
use Rattle.plan.specs.SketchLaws.{sketch-none, ready}
use Rattle.split.specs.Job.{bucket_at}
use Rattle.split.specs.Begin.{made_draft, linked_draft}
use Rattle.split.specs.BegunLaws.{new-read, new-block, new-fits, new-at, old-under, old-at, begun-made}
use Rattle.split.specs.BegunLaws.{begun-linked, begun-last}
use Rattle.split.proofs.begin.begin_pages.Goals as goal

pub overflow_add-new : goal.overflow_add-new
overflow_add-new c = omega (arith, reads-low c.requires.reads)

pub bucket_block-to-requires : goal.bucket_block-to-requires
bucket_block-to-requires c = let y = c.requires.store_value in new-fits c.requires.reads y.0 y.1

pub home_of-from-requires : goal.home_of-from-requires
home_of-from-requires c =
    let r = c.requires.reads in
    let y = c.requires.store_value in
    let is-old = c.parent_of-old.ensures ∙ ap split_from (new-read r y.0 y.1) in
    (known-addressed (reads_known r), subst (λ (k : ℕ). k ≤ c.args.m.max) (sym is-old) (old-under r y.0 y.1))

pub write_empty-requires : goal.write_empty-requires
write_empty-requires c =
    let r = c.requires.reads in
    let y = c.requires.store_value in
    let to = c.bucket_block-to.ensures ∙ new-block r y.0 y.1 in
    let start = sketch-none (c.clear.ensures.by_index _ (reads_sized r).whole) c.clear.ensures.count_value in
    let inside = subst (λ (k : ℕ). k < blocks c.args.store.now) (sym to) (new-at r y.0 y.1) in
    (c.args.store.now, ready start c.bucket_block-to.result inside (omega arith))

pub put_prev-requires : goal.put_prev-requires
unfolding decode
put_prev-requires c =
    let s = c.args.store.now in
    let r = c.requires.reads in
    let y = c.requires.store_value in
    let read = new-read r y.0 y.1 in
    let is-old = c.parent_of-old.ensures ∙ ap split_from read in
    let under : c.parent_of-old.result ≤ c.args.m.max =
    subst (λ (k : ℕ). k ≤ c.args.m.max) (sym is-old) (old-under r y.0 y.1) in
    let k = reads_known r in
    let from =
    c.home_of-from.ensures ∙ bucket-is k c.parent_of-old.result (omega (arith, max-is k, under)) ∙ ap (bucket_at s) is-old in
    let to = c.bucket_block-to.ensures ∙ new-block r y.0 y.1 in
    let start = sketch-none (c.clear.ensures.by_index _ (reads_sized r).whole) c.clear.ensures.count_value in
    let made = begun-made r y.0 y.1 c.bucket_block-to.result _ to read start c.write_empty.ensures in
    let inside = subst (λ (k : ℕ). k < blocks s) (sym from) (old-at r y.0 y.1) in
    (made_draft s, ready made c.home_of-from.result inside (omega arith))

pub mark_bucket-requires : goal.mark_bucket-requires
unfolding decode
mark_bucket-requires c =
    let s = c.args.store.now in
    let r = c.requires.reads in
    let y = c.requires.store_value in
    let read = new-read r y.0 y.1 in
    let is-old = c.parent_of-old.ensures ∙ ap split_from read in
    let under : c.parent_of-old.result ≤ c.args.m.max =
    subst (λ (k : ℕ). k ≤ c.args.m.max) (sym is-old) (old-under r y.0 y.1) in
    let k = reads_known r in
    let from =
    c.home_of-from.ensures ∙ bucket-is k c.parent_of-old.result (omega (arith, max-is k, under)) ∙ ap (bucket_at s) is-old in
    let to = c.bucket_block-to.ensures ∙ new-block r y.0 y.1 in
    let start = sketch-none (c.clear.ensures.by_index _ (reads_sized r).whole) c.clear.ensures.count_value in
    let made = begun-made r y.0 y.1 c.bucket_block-to.result _ to read start c.write_empty.ensures in
    let linked = begun-linked r y.0 y.1 c.home_of-from.result _ from read made c.put_prev.ensures in
    let old : ℕ = bucket_at s c.parent_of-old.result in
    let inside = subst (λ (o : ℕ). bucket_at s o < blocks s) (sym is-old) (old-at r y.0 y.1) in
    record { reads = (r, under); by_index = (linked_draft s, ready linked old inside (omega arith)) }

pub returns : goal.returns
unfolding decode
returns c =
    let s = c.args.store.now in
    let r = c.requires.reads in
    let y = c.requires.store_value in
    let read = new-read r y.0 y.1 in
    let is-old = c.parent_of-old.ensures ∙ ap split_from read in
    let under : c.parent_of-old.result ≤ c.args.m.max =
    subst (λ (k : ℕ). k ≤ c.args.m.max) (sym is-old) (old-under r y.0 y.1) in
    let k = reads_known r in
    let from =
    c.home_of-from.ensures ∙ bucket-is k c.parent_of-old.result (omega (arith, max-is k, under)) ∙ ap (bucket_at s) is-old in
    let to = c.bucket_block-to.ensures ∙ new-block r y.0 y.1 in
    let start = sketch-none (c.clear.ensures.by_index _ (reads_sized r).whole) c.clear.ensures.count_value in
    let made = begun-made r y.0 y.1 c.bucket_block-to.result _ to read start c.write_empty.ensures in
    let linked = begun-linked r y.0 y.1 c.home_of-from.result _ from read made c.put_prev.ensures in
    begun-last r y.0 y.1 (bucket_at s c.parent_of-old.result) (ap (bucket_at s) is-old) made linked c.mark_bucket.ensures
