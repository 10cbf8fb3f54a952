use Rattle.std.proofs.Common.{◌≡◌, refl, sym, ap, ◌∙◌, true, false}
use borrow.Author.Tests.{eq-eqb, ne_eqb}
use Rattle.journal.specs.Journal.{sixteen, head_wiped}
use Rattle.cuts.specs.Journalled.{wiped_outcome}
use Rattle.index.proofs.recovery.wiped.Goals as goal

pub returns-in_default : goal.returns-in_default
unfolding wiped_outcome
returns-in_default c =
    let no : sixteen c.args.journal.now ≡ false = ne_eqb _ 8192 c.in_default.ensures.cases in
    rw no refl

pub returns-then-not-head_wiped : goal.returns-then-not-head_wiped
unfolding wiped_outcome
returns-then-not-head_wiped c =
    let long : sixteen c.args.journal.now ≡ true = eq-eqb _ 8192 c.in-Some.ensures.cases.long in
    let no : head_wiped c.args.journal.now ≡ false =
    ap head_wiped (sym c.in-Some.ensures.cases.same) ∙ sym c.head_wiped.ensures ∙ c.if-not-head_wiped.true
    in
    rw (long, no) refl

pub returns : goal.returns
unfolding wiped_outcome
returns c =
    let long : sixteen c.args.journal.now ≡ true = eq-eqb _ 8192 c.in-Some.ensures.cases.long in
    let yes : head_wiped c.args.journal.now ≡ true =
    ap head_wiped (sym c.in-Some.ensures.cases.same) ∙ sym c.head_wiped.ensures ∙ c.if-not-head_wiped.false
    in
    rw (long, yes) refl
