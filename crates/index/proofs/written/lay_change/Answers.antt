use Rattle.std.proofs.Common.{◌≡◌, refl, ap, arith, rules, List, ◌++◌, ℕ, ◌+◌, ◌*◌, ◌≤◌, length, drop}
use Rattle.index.specs.WrittenLaws.{plan-lays, plan-total, none-lays, none-total}
use Rattle.index.proofs.written.lay_change.Goals as goal

pub returns-then-count-eq0-clause-value : goal.returns-then-count-eq0-clause-value
returns-then-count-eq0-clause-value c =
    none-total c.args.store.now c.args.change c.args.images.now c.if-count-eq0.true

pub returns-then-count-eq0-clause-buffer_after : goal.returns-then-count-eq0-clause-buffer_after
returns-then-count-eq0-clause-buffer_after c =
    none-lays c.args.store.now c.args.change c.args.images.now c.if-count-eq0.true c.args.buffer.now

pub returns-clause-value : goal.returns-clause-value
returns-clause-value c =
    let a = c.args in
    let r = c.requires.sound.0 in
    let t = c.requires.sound.1 in
    let eight : length a.change.numbers ≡ 8 = search rules in
    let few : a.change.count ≤ 8 = t.fits.few in
    let some : 1 ≤ a.change.count = omega arith in
    let long : 5632 ≤ length c.list_stores.new.plan = omega arith in
    plan-total r t c.requires.in_bounds.1 eight some _ c.list_stores.ensures long

pub returns-clause-buffer_after : goal.returns-clause-buffer_after
returns-clause-buffer_after c =
    let a = c.args in
    let r = c.requires.sound.0 in
    let t = c.requires.sound.1 in
    let eight : length a.change.numbers ≡ 8 = search rules in
    let few : a.change.count ≤ 8 = t.fits.few in
    let some : 1 ≤ a.change.count = omega arith in
    let long : 5632 ≤ length c.list_stores.new.plan = omega arith in
    plan-lays r t c.requires.in_bounds.1 eight some _ c.list_stores.ensures long _ refl a.buffer.now _
    (ap (λ (x : List ℕ). x ++ drop (1536 + 512 * a.change.count) a.buffer.now) c.copy_from_slice.ensures.after)
