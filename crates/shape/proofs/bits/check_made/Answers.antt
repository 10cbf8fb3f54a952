use Rattle.std.proofs.Common.{arith, sym, ◌<◌, ◌∙◌, ◌≤◌}
use Rattle.image.specs.Rules.{top_at, bit_ok}
use Rattle.reader.specs.KnownLaws.{known-addressed, top-is}
use Rattle.shape.specs.LoopLaws.{passed, failed, left-start, left-turn, left-done}
use Rattle.shape.proofs.bits.check_made.Goals as goal

pub top_of-top-requires : goal.top_of-top-requires
top_of-top-requires c = known-addressed c.requires.0

pub loop-n-init : goal.loop-n-init
loop-n-init c = left-start (bit_ok c.args.store.now) (top_at c.args.store.now)

pub check_bit-requires : goal.check_bit-requires
check_bit-requires c =
    record {
      known2 = c.requires;
      n_bound = omega (arith, c.loop-n-test.true, c.top_of-top.ensures ∙ top-is c.requires.0);
    }

pub returns-then-not-check_bit : goal.returns-then-not-check_bit
returns-then-not-check_bit c =
    let l = c.loop-n in
    let s = c.args.store.now in
    let test = sym c.check_bit.ensures ∙ c.if-not-check_bit.true in
    let more : l.n < top_at s = omega (arith, c.loop-n-test.true, c.top_of-top.ensures ∙ top-is c.requires.0) in
    sym (sym l.invariant ∙ failed (bit_ok s l.n) _ _ (left-turn (bit_ok s) (top_at s) l.n more) test)

pub loop-n-preserved : goal.loop-n-preserved
loop-n-preserved c =
    let l = c.loop-n in
    let s = c.args.store.now in
    let test = sym c.check_bit.ensures ∙ c.if-not-check_bit.false in
    let more : l.n < top_at s = omega (arith, c.loop-n-test.true, c.top_of-top.ensures ∙ top-is c.requires.0) in
    passed (bit_ok s l.n) _ _ (left-turn (bit_ok s) (top_at s) l.n more) test ∙ l.invariant

pub returns : goal.returns
returns c =
    let l = c.loop-n in
    let s = c.args.store.now in
    let done : top_at s ≤ l.n = omega (arith, c.loop-n-test.false, c.top_of-top.ensures ∙ top-is c.requires.0) in
    sym (sym l.invariant ∙ left-done (bit_ok s) (top_at s) l.n done)
