use Rattle.std.proofs.Common.{ap, ◌∙◌, List, ◌++◌, ℕ, drop}
use Rattle.store.specs.Store.{number_at}
use Rattle.store.specs.Change.{seals}
use Rattle.journal.specs.Journal.{head, ending, wiped}
use Rattle.index.proofs.written.list_stores.Goals as goal

pub returns : goal.returns
returns c =
    let a = c.args in
    c.work_out.ensures
    ∙ ap (λ (k : ℕ). head k a.change.numbers a.change.count
    ++ (ending k a.change.numbers a.change.count
    ++ (wiped ++ seals k a.change.numbers (drop 1536 c.put_images.new.plan) a.change.count)))
    c.number_at-number.ensures
    ∙ ap (λ (l : List ℕ). let k = number_at a.store.now in
    head k a.change.numbers a.change.count
    ++ (ending k a.change.numbers a.change.count
    ++ (wiped ++ seals k a.change.numbers l a.change.count)))
    c.put_images.ensures
