use Rattle.std.proofs.Common.{List, ap₂, false, length-append, sym, ◌+◌, ◌∙◌}
use Rattle.lists.specs.Lists.{bind}
use Rattle.page.specs.declared.Entry.{Entry}
use Rattle.chain.specs.Within.{entries_on}
use Rattle.chain.specs.Pairs.{pairs_in}
use Rattle.chain.specs.PairsLaws.{length_pairs}
use Rattle.chain.proofs.along.count_along.Goals as goal

pub returns : goal.returns
returns c =
    let a = c.args in
    let es : List Entry = bind a.own.now (entries_on a.store.now) in
    let fs : List Entry = bind a.old.now (entries_on a.store.now) in
    ap₂ ◌+◌ (c.count_in_walk.ensures.0 ∙ sym (length_pairs a.hash a.fresh es))
    (c.count_in_walk-2.ensures.0 ∙ sym (length_pairs a.hash false fs))
    ∙ sym (length-append (pairs_in a.hash a.fresh es) (pairs_in a.hash false fs))
