use Rattle.std.proofs.Common.{List, ap, arith, length, ℕ, ◌++◌, ◌+◌, ◌-◌, ◌∙◌, ◌≡◌}
use borrow.Rule.Slice.PartMut.{put_mid}
use Rattle.lists.specs.Block.{set_block}
use Rattle.store.specs.Change.{seals}
use Rattle.journal.specs.Journal.{head, ending, wiped}
use Rattle.journal.proofs.PlanLaws.{plan-written}
use Rattle.journal.proofs.Parts.{rest-lent, rest_back}
use Rattle.journal.proofs.plan.work_out.Goals as goal

pub returns : goal.returns
returns c =
    let a = c.args in
    let rest = length a.plan.now - 1536 in
    let whole : 1536 + rest ≡ length a.plan.now = omega arith in
    c.put_block-3.ensures
    ∙ ap (λ (y : List ℕ). set_block y 2 c.wiped_head-wiped.result)
    (c.put_block-2.ensures
    ∙ ap (λ (y : List ℕ). set_block y 1 c.head_as-end.result) c.put_block.ensures)
    ∙ plan-written a.number a.change.numbers a.change.count
    (put_mid 1536 rest a.plan.now c.seal_change.new.images) c.head_as-head.result
    c.head_as-end.result c.wiped_head-wiped.result c.head_as-head.ensures c.head_as-end.ensures c.wiped_head-wiped.ensures
    ∙ ap
    (λ (y : List ℕ).
    head a.number a.change.numbers a.change.count
    ++ (ending a.number a.change.numbers a.change.count ++ (wiped ++ y)))
    (rest_back a.plan.now 1536 rest whole c.seal_change.new.images
    ∙ c.seal_change.ensures
    ∙ ap (λ (y : List ℕ). seals a.number a.change.numbers y a.change.count)
    (rest-lent a.plan.now 1536 rest whole))
