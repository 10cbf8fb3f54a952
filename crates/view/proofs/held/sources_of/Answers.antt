use Rattle.std.proofs.Common.{ap, arith, ◌∙◌}
use Rattle.view.specs.declared.Sources.{Sources}
use Rattle.view.specs.ReadsLaws.{reads_known}
use Rattle.view.specs.SourcesLaws.{source-other, source-settled, source-populated}
use Rattle.view.proofs.held.sources_of.Goals as goal

pub returns-then-home-m : goal.returns-then-home-m
returns-then-home-m c =
    source-other c.requires c.args.hash c.bucket_of-home.result c.bucket_of-home.ensures c.if-home-m.true

pub bucket_flags-requires : goal.bucket_flags-requires
bucket_flags-requires c =
    (reads_known c.requires, omega (arith, c.if-home-m.false))

pub returns-then-bucket_flags-ne-POPULATED : goal.returns-then-bucket_flags-ne-POPULATED
returns-then-bucket_flags-ne-POPULATED c =
    source-settled c.requires c.args.hash c.bucket_of-home.result c.bucket_of-home.ensures c.if-home-m.false
    c.bucket_flags.result c.bucket_flags.ensures (omega arith)

pub returns : goal.returns
returns c =
    ap (Sources.Both c.bucket_of-home.result) c.parent_of-old.ensures
    ∙ source-populated c.requires c.args.hash c.bucket_of-home.result c.bucket_of-home.ensures c.if-home-m.false
    c.bucket_flags.result c.bucket_flags.ensures (omega arith)
