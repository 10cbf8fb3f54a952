use Rattle.std.proofs.Common.{Bool, ap, eq-eqb, ne_eqb, not, sym, ◌&&◌, ◌∙◌}
use Rattle.outcomes.specs.Outcomes.{store_in_use}
use Rattle.index.proofs.in_use.is_protected.Goals as goal

pub returns-then-order-eq1 : goal.returns-then-order-eq1
returns-then-order-eq1 c =
    let a = c.args in
    sym (ap (λ (b : Bool). not b && store_in_use a.store.now) (eq-eqb a.order.overwrite 1 c.if-order-eq1.true))

pub returns : goal.returns
returns c =
    let a = c.args in
    c.store_in_use.ensures
    ∙ sym (ap (λ (b : Bool). not b && store_in_use a.store.now) (ne_eqb a.order.overwrite 1 c.if-order-eq1.false))
