use Rattle.std.proofs.Common.{◌≡◌, refl, sym, ap, ◌∙◌, true, false, List, ℕ, rules}
use borrow.Author.Tests.{eq-eqb, ne_eqb}
use Rattle.std.specs.Prelude.{Ok}
use Rattle.image.specs.Rules.{length_ok}
use Rattle.chain.specs.WalkLaws.{length_ok-sized}
use Rattle.journal.specs.Journal.{Disk, disk, sixteen, recover}
use Rattle.cuts.specs.Journalled.{recover_outcome}
use Rattle.index.proofs.recovery.recover.Goals as goal

pub returns-then-not-check_length : goal.returns-then-not-check_length
unfolding recover_outcome
returns-then-not-check_length c =
    let no : length_ok c.args.store.now ≡ false = sym c.check_length.ensures ∙ c.if-not-check_length.true in
    rw no refl

pub returns-in_default : goal.returns-in_default
unfolding recover_outcome
returns-in_default c =
    let legal : length_ok c.args.store.now ≡ true = sym c.check_length.ensures ∙ c.if-not-check_length.false in
    let no : sixteen c.args.journal.now ≡ false = ne_eqb _ 8192 c.in_default.ensures.cases in
    rw (legal, no) refl

pub recover_store-requires : goal.recover_store-requires
recover_store-requires c =
    (search rules, (length_ok-sized _ (sym c.check_length.ensures ∙ c.if-not-check_length.false)).whole)

pub returns : goal.returns
unfolding recover_outcome
returns c =
    let legal : length_ok c.args.store.now ≡ true = sym c.check_length.ensures ∙ c.if-not-check_length.false in
    let long : sixteen c.args.journal.now ≡ true = eq-eqb _ 8192 c.in-Some.ensures.cases.long in
    let same = c.in-Some.ensures.cases.same in
    rw (legal, long)
    (ap (λ (j : List ℕ). record { answer = Ok tt; disk = recover (disk c.args.store.now j) }) (sym same)
    ∙ ap (λ (d : Disk). record { answer = Ok tt; disk = d }) c.recover_store.ensures)
