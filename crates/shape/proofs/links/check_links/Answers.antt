use Rattle.std.proofs.Common.{ap, arith, eqb, length, sym, ◌∙◌, ◌≤◌}
use Rattle.image.specs.Decode.{max_at}
use Rattle.chain.specs.WithinLaws.{zero_room, walked-some, walked-few}
use Rattle.reader.specs.KnownLaws.{sized, max-is, max-small}
use Rattle.shape.proofs.Chaining.{linking-start, linking-turn, linking-broken, linking-end}
use Rattle.shape.proofs.links.check_links.Goals as goal

pub loop-b-init : goal.loop-b-init
loop-b-init c = record { linking = linking-start c.args.store.now; room = zero_room c.zero_walk-blocks.ensures }

pub walk_bucket-count-requires : goal.walk_bucket-count-requires
walk_bucket-count-requires c = (c.requires, omega (arith, c.loop-b-test.true), c.loop-b.invariant.room)

pub slice_bounds-check_chain-end : goal.slice_bounds-check_chain-end
slice_bounds-check_chain-end c =
    c.walk_bucket-count.ensures.count ∙ ap length (sym c.walk_bucket-count.ensures.blocks)

pub overflow_add-b-end : goal.overflow_add-b-end
overflow_add-b-end c = omega (arith, max-small c.requires, max-is c.requires)

pub check_chain-requires : goal.check_chain-requires
check_chain-requires c = record { known2 = c.requires; walked = c.walk_bucket-count.ensures.blocks }

pub returns-then-not-check_chain : goal.returns-then-not-check_chain
returns-then-not-check_chain c =
    let made : c.loop-b.b ≤ max_at c.args.store.now = omega (arith, c.loop-b-test.true, max-is c.requires) in
    sym
    (linking-broken c.args.store.now c.loop-b.links c.loop-b.b c.loop-b.invariant.linking made
    (sym c.check_chain.ensures ∙ c.if-not-check_chain.true))

pub overflow_sub-links : goal.overflow_sub-links
overflow_sub-links c = walked-some c.walk_bucket-count.ensures

pub overflow_add-links : goal.overflow_add-links
overflow_add-links c =
    omega (
      arith,
      c.loop-b.invariant.linking.few,
      c.loop-b.invariant.linking.upto,
      walked-few c.walk_bucket-count.ensures (sized c.requires),
      max-small c.requires,
    )

pub loop-b-preserved : goal.loop-b-preserved
loop-b-preserved c =
    let made : c.loop-b.b ≤ max_at c.args.store.now = omega (arith, c.loop-b-test.true, max-is c.requires) in
    record {
      linking =
          linking-turn c.args.store.now c.loop-b.links c.loop-b.b c.loop-b.invariant.linking made
          c.walk_bucket-count.ensures (sized c.requires) (sym c.check_chain.ensures ∙ c.if-not-check_chain.false);
      room = c.walk_bucket-count.ensures.room;
    }

pub returns : goal.returns
returns c =
    let k = c.requires in
    sym
    (linking-end c.args.store.now c.loop-b.links c.loop-b.b c.loop-b.invariant.linking k
    (omega (arith, c.loop-b-test.false, max-is k))
    ∙ ap (eqb c.loop-b.links) (sym c.count_overflow.ensures))
