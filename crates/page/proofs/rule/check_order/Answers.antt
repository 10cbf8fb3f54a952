use Rattle.std.proofs.Common.{◌≡◌, ℕ, ◌+◌, ◌-◌, ap, ap₂, sym, ◌∙◌, arith, Bool, List}
use Rattle.page.specs.declared.Entry.{Entry}
use Rattle.page.specs.Pair.{before}
use Rattle.page.specs.Entries.{entry_at}
use Rattle.page.proofs.RuleLaws.{number-le}
use Rattle.page.proofs.Turns.{passed, failed, order_from, order-start, order-turn, order-end}
use Rattle.page.proofs.rule.check_order.Goals as goal

pub loop-k-init : goal.loop-k-init
loop-k-init c = order-start c.args.p.now c.count_entries-k-end.result c.count_entries-k-end.ensures

pub get_entry-requires : goal.get_entry-requires
get_entry-requires c = omega (arith, number-le c.args.p.now c.requires.number)

pub get_entry-requires-in-loop-k : goal.get_entry-requires-in-loop-k
get_entry-requires-in-loop-k c = omega (arith, number-le c.args.p.now c.requires.number)

-- what the code asked of two entries that it read
asked : (l : List ℕ) (j k : ℕ) {e f : Entry} {r : Bool} → r ≡ before e.pair f.pair → e ≡ entry_at l j → f ≡ entry_at l k
    → before (entry_at l j).pair (entry_at l k).pair ≡ r
asked l j k r e f = sym (r ∙ ap₂ (λ (a b : Entry). before a.pair b.pair) e f)

pub returns-then-not-is_before : goal.returns-then-not-is_before
returns-then-not-is_before c =
    let k = c.loop-k in
    let turn = order-turn c.args.p.now c.count_entries-k-end.result k.k k.auto.k c.loop-k-test.true in
    let test = asked c.args.p.now (k.k - 1) k.k c.is_before.ensures c.get_entry.ensures c.get_entry-in-loop-k.ensures in
    sym (sym k.invariant ∙ failed _ _ _ turn (test ∙ c.if-not-is_before.true))

pub loop-k-preserved : goal.loop-k-preserved
loop-k-preserved c =
    let k = c.loop-k in
    let n = c.count_entries-k-end.result in
    let turn = order-turn c.args.p.now n k.k k.auto.k c.loop-k-test.true in
    let next : k.k + 1 - 1 ≡ k.k = omega arith in
    let test = asked c.args.p.now (k.k - 1) k.k c.is_before.ensures c.get_entry.ensures c.get_entry-in-loop-k.ensures in
    ap (order_from c.args.p.now n) next ∙ passed _ _ _ turn (test ∙ c.if-not-is_before.false) ∙ k.invariant

pub returns : goal.returns
returns c =
    let k = c.loop-k in
    sym (sym k.invariant ∙ order-end c.args.p.now c.count_entries-k-end.result (k.k - 1) (omega arith))
