use Rattle.std.proofs.Common.{sym, ◌∙◌, subst, ℕ, arith}
use lib.Seq.{sets}
use Rattle.endian.specs.Endian.{le16}
use Rattle.draft.specs.Draft.{Ready, Edited}
use Rattle.image.specs.Decode.{decode}
use Rattle.reader.specs.KnownLaws.{known-addressed, max-is, bucket-is}
use Rattle.view.specs.ReadsLaws.{reads_known}
use Rattle.split.proofs.job.mark_bucket.Goals as goal

pub home_of-requires : goal.home_of-requires
home_of-requires c = (known-addressed (reads_known c.requires.reads.0), c.requires.reads.1)

pub put_flags-requires : goal.put_flags-requires
unfolding decode
put_flags-requires c =
    let d = c.args.draft.now in
    let k = reads_known c.requires.reads.0 in
    let at = c.home_of.ensures ∙ bucket-is k c.args.b (omega (arith, max-is k, c.requires.reads.1)) in
    (c.requires.by_index.0, subst (Ready c.args.store.now d.change d.images c.requires.by_index.0) (sym at) c.requires.by_index.1)

pub returns : goal.returns
unfolding decode
returns c =
    let a = c.args in
    let d = a.draft.now in
    let k = reads_known c.requires.reads.0 in
    let at = c.home_of.ensures ∙ bucket-is k a.b (omega (arith, max-is k, c.requires.reads.1)) in
    subst
    (λ (k : ℕ). Edited a.store.now d.change d.images k (λ l. sets l 504 (le16 a.flags))
    c.put_flags.new.draft.change c.put_flags.new.draft.images)
    at c.put_flags.ensures
