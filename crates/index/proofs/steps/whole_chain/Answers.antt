use Rattle.std.proofs.Common.{sym, subst, arith}
use Rattle.view.specs.Reads.{Reads}
use Rattle.view.specs.ReadsLaws.{reads-max}
use Rattle.index.proofs.steps.whole_chain.Goals as goal

pub span_of-requires : goal.span_of-requires
span_of-requires c =
    let r = subst (Reads c.args.store.now) (sym c.read_fields-m.ensures) c.requires.0 in
    (r, omega (arith, reads-max r, c.requires.1))
