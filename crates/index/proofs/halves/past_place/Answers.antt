use Rattle.std.proofs.Common.{ℕ, ◌+◌, ◌-◌, ◌*◌, ◌<◌, arith}
use Rattle.lists.specs.Block.{blocks}
use Rattle.index.specs.HalvesLaws.{place-head, place_end, place-wipe, place-outside, place-page}
use Rattle.index.proofs.halves.past_place.Goals as goal

-- the plan has the block store
below : (count past : ℕ) → past < count + 3 → count + past < 2 * count + 3
below count past h = omega arith

pub returns-then-past-eq0 : goal.returns-then-past-eq0
returns-then-past-eq0 c =
    let a = c.args in
    let l = below a.count a.past c.requires.4 in
    place-head a.store.now a.plan.now (a.count + a.past) _ c.requires.1 c.requires.2 c.requires.3 l (omega arith)

pub returns-then-past-eq1 : goal.returns-then-past-eq1
returns-then-past-eq1 c =
    let a = c.args in
    let l = below a.count a.past c.requires.4 in
    place_end a.store.now a.plan.now (a.count + a.past) _ c.requires.1 c.requires.2 c.requires.3 l (omega arith)

pub returns-then-past-count : goal.returns-then-past-count
returns-then-past-count c =
    let a = c.args in
    let l = below a.count a.past c.requires.4 in
    place-wipe a.store.now a.plan.now (a.count + a.past) _ c.requires.1 c.requires.2 c.requires.3 l (omega arith)

pub returns-then-name-store : goal.returns-then-name-store
unfolding blocks
returns-then-name-store c =
    let a = c.args in
    let l = below a.count a.past c.requires.4 in
    place-outside a.store.now a.plan.now (a.count + a.past) _ c.requires.1 c.requires.2 c.requires.3 l
    (a.past - 2) _ (omega arith) c.plan_name-name.ensures (omega arith) c.if-name-store.true

pub returns : goal.returns
unfolding blocks
returns c =
    let a = c.args in
    let l = below a.count a.past c.requires.4 in
    place-page a.store.now a.plan.now (a.count + a.past) _ c.requires.1 c.requires.2 c.requires.3 l
    (a.past - 2) _ (omega arith) c.plan_name-name.ensures (omega arith) c.if-name-store.false
