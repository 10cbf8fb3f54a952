use Rattle.std.proofs.Common.{◌≡◌, refl, sym, ap, ◌∙◌, true, false}
use borrow.Author.Tests.{eq-eqb, ne_eqb}
use Rattle.image.specs.Rules.{length_ok}
use Rattle.journal.specs.Journal.{sixteen, head_wiped}
use Rattle.cuts.specs.Journalled.{tested_with}
use Rattle.index.proofs.ready.test_ready.Goals as goal

pub returns-then-not-check_length : goal.returns-then-not-check_length
unfolding tested_with
returns-then-not-check_length c =
    let no : length_ok c.args.store.now ≡ false = sym c.check_length.ensures ∙ c.if-not-check_length.true in
    rw no refl

pub returns-in_default : goal.returns-in_default
unfolding tested_with
returns-in_default c =
    let legal : length_ok c.args.store.now ≡ true = sym c.check_length.ensures ∙ c.if-not-check_length.false in
    let no : sixteen c.args.journal.now ≡ false = ne_eqb _ 8192 c.in_default.ensures.cases in
    rw (legal, no) refl

pub returns-then-not-numbers : goal.returns-then-not-numbers
unfolding tested_with
returns-then-not-numbers c =
    let legal : length_ok c.args.store.now ≡ true = sym c.check_length.ensures ∙ c.if-not-check_length.false in
    let long : sixteen c.args.journal.now ≡ true = eq-eqb _ 8192 c.in-Some.ensures.cases.long in
    let no : c.args.numbers ≡ false = c.if-not-numbers.true in
    rw (legal, long, no) refl

pub returns-then-not-head_wiped : goal.returns-then-not-head_wiped
unfolding tested_with
returns-then-not-head_wiped c =
    let legal : length_ok c.args.store.now ≡ true = sym c.check_length.ensures ∙ c.if-not-check_length.false in
    let long : sixteen c.args.journal.now ≡ true = eq-eqb _ 8192 c.in-Some.ensures.cases.long in
    let same = c.in-Some.ensures.cases.same in
    let good : c.args.numbers ≡ true = c.if-not-numbers.false in
    let no : head_wiped c.args.journal.now ≡ false =
    ap head_wiped (sym same) ∙ sym c.head_wiped.ensures ∙ c.if-not-head_wiped.true
    in
    rw (legal, long, good, no) refl

pub returns : goal.returns
unfolding tested_with
returns c =
    let legal : length_ok c.args.store.now ≡ true = sym c.check_length.ensures ∙ c.if-not-check_length.false in
    let long : sixteen c.args.journal.now ≡ true = eq-eqb _ 8192 c.in-Some.ensures.cases.long in
    let same = c.in-Some.ensures.cases.same in
    let good : c.args.numbers ≡ true = c.if-not-numbers.false in
    let yes : head_wiped c.args.journal.now ≡ true =
    ap head_wiped (sym same) ∙ sym c.head_wiped.ensures ∙ c.if-not-head_wiped.false
    in
    rw (legal, long, good, yes) c.test_store.ensures
