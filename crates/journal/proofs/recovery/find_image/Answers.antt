use Rattle.std.proofs.Common.{arith, Bool, ℕ, eqb}
use borrow.Author.Rules.{rules}
use borrow.Author.Tests.{tests}
use Rattle.std.proofs.lemmas.Iterator.{YieldsList-from_range}
use Rattle.std.proofs.lemmas.Iterator.Search.{find_from_yields_List}
use Rattle.journal.specs.Journal.{count_in, name_in}
use Rattle.journal.proofs.RangeLaws.{found}
use Rattle.journal.proofs.recovery.find_image.Goals as goal

pub returns : goal.returns
returns c =
    let j = c.args.journal.now in
    let test : ℕ → Bool = λ i. eqb (name_in j i) c.args.k in
    found test (count_in j) 14 _ c.requires
    (find_from_yields_List test _ _ _ c.find.ensures.ran (YieldsList-from_range 0 (count_in j) (count_in j) (cc) (omega arith))
    (λ x b q k. search (rules, tests)))
