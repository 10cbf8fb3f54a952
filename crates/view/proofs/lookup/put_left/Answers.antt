use Rattle.std.proofs.Common.{◌-◌, refl, length, ◌∙◌, subst, arith, ℕ}
use Rattle.merge.specs.Heads.{left_of}
use Rattle.view.specs.Left.{NoLower}
use Rattle.view.proofs.Listing.{list-start, done-none, done-past, first-told, first-less, first-room, first-put}
use Rattle.view.proofs.lookup.put_left.Goals as goal

pub loop-first-init : goal.loop-first-init
loop-first-init c =
    let a = c.args in
    let u = c.requires.underway in
    record {
      underway = u.0;
      listed = list-start (left_of a.store.now a.pages.now a.merge.now.tails) a.own (length a.pages.now - a.own) a.hash
          a.fresh a.output.now
          (subst (λ (m : ℕ). NoLower (left_of a.store.now a.pages.now a.merge.now.tails) m a.hash) (omega (arith, u.2))
          c.requires.no_lower)
          c.requires.room;
      same_length = refl;
    }

pub returns-then-first-hash : goal.returns-then-first-hash
returns-then-first-hash c =
    let i = c.loop-first.invariant in
    let u = c.requires.underway in
    done-past c.loop-first.merge i.underway u.1 u.2 i.listed c.in-Some.first c.in-Some.ensures c.if-first-hash.true

pub put_match-at-requires-clause-told : goal.put_match-at-requires-clause-told
put_match-at-requires-clause-told c =
    let i = c.loop-first.invariant in
    let u = c.requires.underway in
    first-told c.loop-first.merge i.underway u.1 u.2 i.listed c.in-Some.first c.in-Some.ensures

pub put_match-at-requires-clause-at_in_bounds : goal.put_match-at-requires-clause-at_in_bounds
put_match-at-requires-clause-at_in_bounds c =
    let i = c.loop-first.invariant in
    let u = c.requires.underway in
    first-room c.loop-first.merge i.underway u.1 u.2 i.listed c.in-Some.first c.in-Some.ensures c.if-first-hash.false
    c.take_first.new.self c.take_first.ensures c.is_fresh-only.ensures

pub loop-first-smaller : goal.loop-first-smaller
loop-first-smaller c =
    let i = c.loop-first.invariant in
    let u = c.requires.underway in
    first-less c.loop-first.merge i.underway u.1 u.2 i.listed c.in-Some.first c.in-Some.ensures c.if-first-hash.false
    c.take_first.new.self c.take_first.ensures

pub loop-first-preserved : goal.loop-first-preserved
loop-first-preserved c =
    let i = c.loop-first.invariant in
    let u = c.requires.underway in
    record {
      underway = c.take_first.ensures.merging;
      listed = first-put c.loop-first.merge i.underway u.1 u.2 i.listed c.in-Some.first c.in-Some.ensures
          c.if-first-hash.false c.take_first.new.self c.take_first.ensures c.is_fresh-only.ensures _ _
          c.put_match-at.ensures.0 c.put_match-at.ensures.1;
      same_length = c.put_match-at.auto.output ∙ i.same_length;
    }

pub returns : goal.returns
returns c =
    let i = c.loop-first.invariant in
    let u = c.requires.underway in
    done-none c.loop-first.merge i.underway u.1 u.2 i.listed c.in_default.ensures
