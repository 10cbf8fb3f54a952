use Rattle.std.proofs.Common.{◌≡◌, ◌+◌, ◌-◌, List, ℕ, length, sym, ap, ◌∙◌, subst, arith}
use Rattle.page.specs.declared.Pair.{Pair}
use Rattle.model.specs.Held.{sorted}
use Rattle.merge.specs.Heads.{page_at, left_of, Pages, CursorsAt}
use Rattle.page.proofs.RunLaws.{lowest}
use Rattle.view.specs.Left.{pairs_left, NoLower}
use Rattle.view.specs.LeftLaws.{start-pairs, start-above}
use Rattle.view.specs.Lookup.{written, Listable}
use Rattle.view.proofs.lookup.put_pages.Goals as goal
use Rattle.view.proofs.lookup.put_pages.Goals.{After-start}

both : (c : After-start) → length c.args.pages.now ≡ c.args.own + (length c.args.pages.now - c.args.own)
both c = omega (arith, c.requires.2)

pages : (c : After-start)
    → Pages c.args.store.now c.args.pages.now (c.args.own + (length c.args.pages.now - c.args.own))
pages c = subst (Pages c.args.store.now c.args.pages.now) (both c) c.requires.0

cursors : (c : After-start)
    → CursorsAt c.args.store.now c.args.pages.now (lowest c.args.hash)
    (c.args.own + (length c.args.pages.now - c.args.own)) c.start.new.self.tails
cursors c =
    subst (λ (m : ℕ). CursorsAt c.args.store.now c.args.pages.now (lowest c.args.hash) m c.start.new.self.tails) (both c)
    c.start.ensures.cursors

-- the pairs that are left at the start are all pairs on the pages
all : (c : After-start) → let a = c.args in
    pairs_left (left_of a.store.now a.pages.now c.start.new.self.tails) a.own (length a.pages.now - a.own) a.hash a.fresh
    ≡ pairs_left (page_at a.store.now a.pages.now) a.own (length a.pages.now - a.own) a.hash a.fresh
all c =
    let a = c.args in
    start-pairs a.store.now a.pages.now c.start.new.self.tails a.own (length a.pages.now - a.own) a.hash a.fresh (pages c)
    (cursors c)

pub put_left-requires-clause-no_lower : goal.put_left-requires-clause-no_lower
put_left-requires-clause-no_lower c =
    let a = c.args in
    let s = (goal.at.put_left-requires-clause-no_lower c).After-start in
    subst (λ (m : ℕ). NoLower (left_of a.store.now a.pages.now c.start.new.self.tails) m a.hash) (sym (both s))
    (start-above a.store.now a.pages.now c.start.new.self.tails a.own (length a.pages.now - a.own) a.hash a.fresh (pages s)
    (cursors s))

pub put_left-requires-clause-room : goal.put_left-requires-clause-room
put_left-requires-clause-room c =
    subst (λ (ps : List Pair). Listable ps c.args.output.now)
    (sym (all (goal.at.put_left-requires-clause-room c).After-start)) c.requires.3

pub returns : goal.returns
returns c =
    c.put_left.ensures
    ∙ ap (λ (ps : List Pair). written (sorted ps) c.args.output.now) (all (goal.at.returns c).After-start)
