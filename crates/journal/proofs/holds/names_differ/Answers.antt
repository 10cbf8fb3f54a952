use Rattle.std.proofs.Common.{arith, refl, Bool, not, ℕ, eqb}
use borrow.Author.Rules.{rules}
use borrow.Author.Tests.{tests}
use Rattle.std.proofs.lemmas.Iterator.{YieldsList-from_range}
use Rattle.std.proofs.lemmas.Iterator.Search.{all_from_yields_List}
use Rattle.lists.specs.Lists.{all, up_from}
use Rattle.journal.specs.Journal.{name_in}
use Rattle.journal.proofs.RangeLaws.{all-run}
use Rattle.journal.proofs.holds.names_differ.Goals as goal

pub returns : goal.returns
returns c =
    let a = c.args in
    let test : ℕ → Bool = λ j. all (λ i. not (eqb (name_in a.journal.now i) (name_in a.journal.now j))) (up_from 0 j) in
    all-run test a.count _
    (all_from_yields_List test _ _ _ c.all.ensures.ran (YieldsList-from_range 0 a.count a.count refl (omega arith))
    (λ x b q k. search (rules, tests)))
