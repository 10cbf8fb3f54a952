use Rattle.std.proofs.Common.{arith, length-set, subst, suc, ◌+◌, ◌<◌, ◌∙◌, ◌≡◌}
use Rattle.lists.specs.Block.{blocks}
use Rattle.address.specs.Limits.{max_blocks}
use Rattle.chain.specs.Walk.{Walked}
use Rattle.chain.proofs.Walking.{begin, turn, ended, spent}
use Rattle.chain.proofs.links.walk_chain.Goals as goal

pub bounds-blocks-0 : goal.bounds-blocks-0
bounds-blocks-0 c = omega arith

pub loop-count-init : goal.loop-count-init
unfolding blocks
loop-count-init c =
    let a = c.args in
    record {
      room = length-set a.blocks.now 0 a.first ∙ c.requires.1;
      so_far = begin a.store.now a.blocks.now a.first (omega (arith, c.requires.1));
    }

pub offset_bounds-blocks-count : goal.offset_bounds-blocks-count
unfolding blocks
offset_bounds-blocks-count c = omega (arith, c.requires.0.few)

pub bounds-blocks-count : goal.bounds-blocks-count
unfolding blocks
bounds-blocks-count c = omega (arith, c.requires.0.few, c.loop-count.invariant.room)

pub loop-count-preserved : goal.loop-count-preserved
unfolding blocks
loop-count-preserved c =
    let l = c.loop-count in
    let r = c.next_block-next in
    let few : l.count < suc max_blocks = omega (arith, c.requires.0.few) in
    record {
      room = length-set l.blocks l.count r.result ∙ l.invariant.room;
      so_far =
          turn c.args.store.now l.blocks l.count l.last r.result (omega arith)
          (omega (arith, few, l.invariant.room)) r.ensures c.if-next.false
          ∙ l.invariant.so_far;
    }

pub returns-then-next : goal.returns-then-next
unfolding blocks
returns-then-next c =
    let l = c.loop-count in
    let r = c.next_block-next in
    ended c.args.store.now l.blocks l.count l.last c.args.first l.invariant.room
    (omega (arith, c.requires.0.few)) l.invariant.so_far r.result r.ensures c.if-next.true

pub returns : goal.returns
unfolding blocks
returns c =
    let l = c.loop-count in
    let s = c.args.store.now in
    let end : l.count ≡ blocks s + 1 = omega arith in
    subst (Walked s c.args.first l.blocks) end
    (spent s l.blocks l.count l.last c.args.first l.invariant.room (omega (arith, c.requires.0.few)) l.invariant.so_far
    (omega arith))
