use Rattle.std.proofs.Common.{sym, subst, arith}
use Rattle.image.specs.Decode.{decode}
use Rattle.view.specs.Reads.{Reads}
use Rattle.view.specs.ReadsLaws.{reads-max}
use Rattle.index.specs.SqueezeLaws.{bucket-above, bucket-busy, bucket-free}
use Rattle.index.proofs.squeezing.test_bucket.Goals as goal

pub returns-then-bucket-m : goal.returns-then-bucket-m
returns-then-bucket-m c =
    let r = subst (Reads c.args.store.now) (sym c.read_fields-m.ensures) c.requires in
    bucket-above (decode c.args.store.now) c.args.bucket (omega (arith, reads-max r, c.if-bucket-m.true))

pub returns-then-is_busy : goal.returns-then-is_busy
returns-then-is_busy c =
    let r = subst (Reads c.args.store.now) (sym c.read_fields-m.ensures) c.requires in
    bucket-busy (decode c.args.store.now) c.args.bucket (omega (arith, reads-max r, c.if-bucket-m.false))
    (sym c.if-is_busy.ensures)

pub returns : goal.returns
returns c =
    let r = subst (Reads c.args.store.now) (sym c.read_fields-m.ensures) c.requires in
    bucket-free (decode c.args.store.now) c.args.bucket (omega (arith, reads-max r, c.if-bucket-m.false))
    (sym c.if-is_busy.ensures)
