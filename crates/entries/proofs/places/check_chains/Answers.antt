use Rattle.std.proofs.Common.{◌≡◌, suc, ◌+◌, ◌≤◌, sym, ◌∙◌, arith}
use Rattle.image.specs.Decode.{max_at}
use Rattle.chain.specs.WithinLaws.{zero_room}
use Rattle.reader.specs.KnownLaws.{max-is}
use Rattle.shape.specs.LoopLaws.{passed, failed, left-start, left-turn, left-done}
use Rattle.entries.specs.WalkedLaws.{walk-within, walk-pages}
use Rattle.entries.proofs.Homing.{homed, walk-homed}
use Rattle.entries.proofs.places.check_chains.Goals as goal
use Rattle.entries.proofs.places.check_chains.Goals.{In-loop-b, After-check_walk_places}

pub loop-b-init : goal.loop-b-init
loop-b-init c =
    let s = c.args.store.now in
    (left-start (homed s c.args.phase) (suc (max_at s)), zero_room c.zero_walk-blocks.ensures)

made : (c : In-loop-b) → c.loop-b.b ≤ max_at c.args.store.now
made c = omega (arith, c.loop-b-test.true, max-is c.requires.known.known.known)

pub check_walk_places-requires : goal.check_walk_places-requires
check_walk_places-requires c =
    let low = made (goal.at.check_walk_places-requires c).In-loop-b in (
      walk-within c.loop-b.b low c.walk_bucket-count.ensures c.requires.known,
      walk-pages c.loop-b.b low c.walk_bucket-count.ensures c.requires,
    )

-- the chain of bucket b
chain : (c : After-check_walk_places) → c.loop-b.b ≤ max_at c.args.store.now
    → homed c.args.store.now c.args.phase c.loop-b.b ≡ c.check_walk_places.result
chain c low =
    sym
    (c.check_walk_places.ensures
    ∙ walk-homed c.args.store.now c.args.phase c.loop-b.b low c.walk_bucket-count.ensures c.args.m.max
    (max-is c.requires.known.known.known))

pub returns-then-not-check_walk_places : goal.returns-then-not-check_walk_places
returns-then-not-check_walk_places c =
    let s = c.args.store.now in
    let at = goal.at.returns-then-not-check_walk_places c in
    let low = made at.In-loop-b in
    sym (sym c.loop-b.invariant.0
    ∙ failed _ _ _ (left-turn (homed s c.args.phase) (suc (max_at s)) c.loop-b.b (omega (arith, low)))
    (chain at.After-check_walk_places low ∙ c.if-not-check_walk_places.true))

pub loop-b-preserved : goal.loop-b-preserved
loop-b-preserved c =
    let s = c.args.store.now in
    let at = goal.at.loop-b-preserved c in
    let low = made at.In-loop-b in (
      passed _ _ _ (left-turn (homed s c.args.phase) (suc (max_at s)) c.loop-b.b (omega (arith, low)))
          (chain at.After-check_walk_places low ∙ c.if-not-check_walk_places.false)
          ∙ c.loop-b.invariant.0,
      c.walk_bucket-count.ensures.room,
    )

-- after the last bucket
pub returns-else-not-check_walk_places : goal.returns-else-not-check_walk_places
returns-else-not-check_walk_places c =
    let s = c.args.store.now in
    let at = goal.at.returns-else-not-check_walk_places c in
    let low = made at.In-loop-b in
    sym (left-done (homed s c.args.phase) (suc (max_at s)) (c.loop-b.b + 1)
    (omega (arith, max-is c.requires.known.known.known)))
    ∙ passed _ _ _ (left-turn (homed s c.args.phase) (suc (max_at s)) c.loop-b.b (omega (arith, low)))
    (chain at.After-check_walk_places low ∙ c.if-not-check_walk_places.false)
    ∙ c.loop-b.invariant.0
