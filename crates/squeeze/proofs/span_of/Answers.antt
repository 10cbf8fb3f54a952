use Rattle.std.proofs.Common.{sym, ◌∙◌, subst}
use Rattle.chain.specs.Walk.{Bounded}
use Rattle.reader.specs.KnownLaws.{known-addressed, bucket-is}
use Rattle.view.specs.ReadsLaws.{reads_known}
use Rattle.view.specs.ChainLaws.{under-max, walk-bounded}
use Rattle.squeeze.specs.SpanLaws.{spans_all}
use Rattle.squeeze.proofs.span_of.Goals as goal

pub home_of-first-requires : goal.home_of-first-requires
home_of-first-requires c = (known-addressed (reads_known c.requires.0), c.requires.1)

pub last_block-last-requires : goal.last_block-last-requires
last_block-last-requires c =
    let r = c.requires.0 in
    let home = c.home_of-first.ensures ∙ bucket-is (reads_known r) c.args.b (under-max r c.args.b c.requires.1) in
    subst (Bounded c.args.store.now) (sym home) (walk-bounded r c.args.b c.requires.1)

pub returns : goal.returns
returns c =
    let r = c.requires.0 in
    let home = c.home_of-first.ensures ∙ bucket-is (reads_known r) c.args.b (under-max r c.args.b c.requires.1) in
    spans_all r c.args.b c.requires.1 home c.last_block-last.ensures
