use Rattle.std.proofs.Common.{◌≡◌, refl, sym, ap, ◌∙◌, true, false, List, ℕ}
use borrow.Author.Tests.{eq-eqb, ne_eqb}
use Rattle.lists.specs.Block.{set_block}
use Rattle.std.specs.Prelude.{Ok}
use Rattle.journal.specs.Journal.{sixteen, wiped}
use Rattle.cuts.specs.Journalled.{wipe_outcome}
use Rattle.index.proofs.recovery.wipe.Goals as goal

pub returns-in_default : goal.returns-in_default
unfolding wipe_outcome
returns-in_default c =
    let no : sixteen c.args.journal.now ≡ false = ne_eqb _ 8192 c.in_default.ensures.cases in
    rw no refl

pub returns : goal.returns
unfolding wipe_outcome
returns c =
    let long : sixteen c.args.journal.now ≡ true = eq-eqb _ 8192 c.in-Some.ensures.cases.long in
    rw long
    (ap (λ (j : List ℕ). record { answer = Ok tt; journal = j })
    (ap (λ (j : List ℕ). set_block j 0 wiped) (sym c.in-Some.ensures.cases.same) ∙ sym c.wipe_head.ensures))
