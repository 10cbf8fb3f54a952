use Rattle.std.proofs.Common.{sym, ap, ◌∙◌, arith}
use Rattle.lists.specs.Bytes.{Bytes}
use Rattle.image.specs.Rules.{distinct}
use Rattle.merge.specs.WalksLaws.{alone-pages, alone-entries}
use Rattle.entries.proofs.Distinct.{one-page}
use Rattle.entries.proofs.pages.check_distinct.Goals as goal

pub returns-then-walk-le1 : goal.returns-then-walk-le1
returns-then-walk-le1 c =
    sym (one-page c.args.store.now c.args.walk.now c.requires.0 c.requires.1 c.if-walk-le1.true)

pub all_distinct-requires : goal.all_distinct-requires
all_distinct-requires c =
    let bytes : Bytes c.args.store.now = λ i. omega (arith, c.type_inv.store i) in
    (alone-pages bytes c.requires.0 c.requires.1, omega (arith, c.if-walk-le1.false))

pub returns : goal.returns
returns c = c.all_distinct.ensures ∙ ap distinct (alone-entries c.args.store.now c.args.walk.now)
