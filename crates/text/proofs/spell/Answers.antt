use Rattle.std.proofs.Common.{◌≡◌, ℕ, List, [], ◌++◌, ◌≤◌, length, drop, sym, ap, ◌∙◌, append-nil, rules, arith, drop_of_length-le}
use Rattle.text.specs.Digits.{digits}
use Rattle.text.specs.DigitsLaws.{digits-some, spell_last, spell-more, spell-fewer}
use Rattle.text.specs.TextLaws.{digits-64}
use Rattle.text.proofs.spell.Goals as goal

pub loop-rest-init : goal.loop-rest-init
loop-rest-init c =
    let n = c.args.n in
    let space = c.args.space.now in
    let long : length space ≡ 20 = search rules in
    let none : drop 20 space ≡ [] = drop_of_length-le space {i = 20} (omega arith) in
    record {
      room = digits-64 n c.ranges.n.fits;
      at_most_20 = omega arith;
      spelled = sym (append-nil (digits n)) ∙ ap (λ (x : List ℕ). digits n ++ x) (sym none);
    }

pub overflow_sub-at : goal.overflow_sub-at
overflow_sub-at c = omega (arith, digits-some c.loop-rest.rest)

pub bounds-space-at : goal.bounds-space-at
bounds-space-at c = omega (arith, digits-some c.loop-rest.rest)

pub loop-rest-smaller : goal.loop-rest-smaller
loop-rest-smaller c = omega (arith, digits-some c.loop-rest.rest)

pub returns-then-rest-eq0 : goal.returns-then-rest-eq0
returns-then-rest-eq0 c =
    let l = c.loop-rest in
    let room : 1 ≤ l.at = omega (arith, digits-some l.rest) in
    (omega arith, spell_last c.args.n l.rest l.at l.space room (omega arith) l.invariant.spelled c.if-rest-eq0.true)

pub loop-rest-preserved : goal.loop-rest-preserved
loop-rest-preserved c =
    let l = c.loop-rest in
    let room : 1 ≤ l.at = omega (arith, digits-some l.rest) in
    record {
      room = spell-fewer c.args.n l.rest l.at l.space room (omega arith) l.invariant.spelled c.if-rest-eq0.false
          l.invariant.room;
      at_most_20 = omega arith;
      spelled = spell-more c.args.n l.rest l.at l.space room (omega arith) l.invariant.spelled c.if-rest-eq0.false;
    }
