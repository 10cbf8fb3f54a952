use Rattle.std.proofs.Common.{◌≡◌, ◌+◌, ◌≤◌, length, ◌∙◌, arith}
use Rattle.image.specs.Decode.{max_at}
use Rattle.chain.specs.WithinLaws.{zero_room}
use Rattle.reader.specs.KnownLaws.{max-is, max-small}
use Rattle.entries.specs.WalkedLaws.{walk-within, walk-pages}
use Rattle.entries.proofs.Counting.{live_of, live-start, live-turn, live-done, live-walk}
use Rattle.entries.proofs.counts.count_live.Goals as goal
use Rattle.entries.proofs.counts.count_live.Goals.{After-count_walk-live, In-loop-b}

pub loop-b-init : goal.loop-b-init
loop-b-init c =
    record {
      few = omega arith;
      counted = omega (arith, live-start c.args.store.now);
      room = zero_room c.zero_walk-blocks.ensures;
    }

made : (c : In-loop-b) → c.loop-b.b ≤ max_at c.args.store.now
made c = omega (arith, c.loop-b-test.true, max-is c.requires.known.known.known)

pub count_walk-live-requires : goal.count_walk-live-requires
count_walk-live-requires c =
    let low = made (goal.at.count_walk-live-requires c).In-loop-b in (
      walk-within c.loop-b.b low c.walk_bucket-count.ensures c.requires.known,
      walk-pages c.loop-b.b low c.walk_bucket-count.ensures c.requires,
    )

pub overflow_add-live : goal.overflow_add-live
overflow_add-live c =
    omega (
      arith,
      c.loop-b.invariant.few,
      c.count_walk-live.ensures.1,
      made (goal.at.overflow_add-live c).In-loop-b,
      max-small c.requires.known.known.known,
    )

-- the held entries of the chain of bucket b
here : (c : After-count_walk-live) → c.loop-b.b ≤ max_at c.args.store.now
    → c.count_walk-live.result ≡ length (live_of c.args.store.now c.loop-b.b)
here c low =
    c.count_walk-live.ensures.0
    ∙ live-walk c.args.store.now c.read_job-phase.result c.read_job-phase.ensures c.loop-b.b low
    c.walk_bucket-count.ensures c.args.m.max (max-is c.requires.known.known.known)

pub loop-b-preserved : goal.loop-b-preserved
loop-b-preserved c =
    let low = made (goal.at.loop-b-preserved c).In-loop-b in
    record {
      few = omega (arith, c.loop-b.invariant.few, c.count_walk-live.ensures.1);
      counted = omega (
        arith,
        c.loop-b.invariant.counted,
        here (goal.at.loop-b-preserved c).After-count_walk-live low,
        live-turn c.args.store.now c.loop-b.b low,
      );
      room = c.walk_bucket-count.ensures.room;
    }

-- after the last bucket
pub returns-2 : goal.returns-2
returns-2 c =
    let low = made (goal.at.returns-2 c).In-loop-b in
    omega (
      arith,
      c.loop-b.invariant.counted,
      here (goal.at.returns-2 c).After-count_walk-live low,
      live-turn c.args.store.now c.loop-b.b low,
      live-done c.args.store.now (c.loop-b.b + 1) (omega (arith, max-is c.requires.known.known.known)),
    )
