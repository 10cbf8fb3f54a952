use Rattle.std.proofs.Common.{◌≡◌, ℕ, Bool, true, false, cond, ◌<◌, ◌+◌, ◌*◌, ◌-◌, ◌/◌, get_or, set, refl, sym, ap, subst, ◌∙◌, arith}
use Rattle.merge.specs.declared.Merge.{Merge}
use Rattle.merge.specs.Tree.{max_pages}
use Rattle.merge.specs.ReplayLaws.{Rising, sibling-few, page-few, rise-here, rise-side, risen}
use Rattle.merge.proofs.Merge.replay.Goals as goal
use Rattle.merge.proofs.Merge.replay.Goals.{In-loop-k}

-- the page next to it is one of the n
other : (c : In-loop-k) → get_or c.loop-k.self.tree (4 * (c.loop-k.k / 2) + 1 - c.loop-k.k) 0 < max_pages
other c = omega (arith, sibling-few c.requires.1 c.loop-k.invariant.rising c.loop-k-test.true, c.requires.1)

page : (c : In-loop-k) → c.loop-k.page < max_pages
page c = omega (arith, page-few c.requires.1 c.loop-k.invariant.rising, c.requires.1)

pub is_ahead-requires : goal.is_ahead-requires
is_ahead-requires c =
    let l = (goal.at.is_ahead-requires c).In-loop-k in (page l, other l, c.loop-k.invariant.rising.key)

either : (b : Bool) (x y m : ℕ) → x < m → y < m → cond b x y < m
either true x y m h l = h
either false x y m h l = l

pub bounds-self-page : goal.bounds-self-page
bounds-self-page c =
    let l = (goal.at.bounds-self-page c).In-loop-k in
    omega (arith, c.pick-page.ensures, either c.is_ahead.result _ _ max_pages (page l) (other l))

pub loop-k-preserved : goal.loop-k-preserved
loop-k-preserved c = record {
  rest = ap (λ (m : Merge). record m { tree = set l.tree up c.pick-page.result }) c.loop-k.invariant.rest;
  rising = go c.is_ahead.result refl;
}
  where
    l : Merge
    l = c.loop-k.self

    up : ℕ
    up = c.loop-k.k / 2

    q : ℕ
    q = get_or l.tree (4 * up + 1 - c.loop-k.k) 0

    -- with page x at the node above
    risen-by : ℕ → Type 0
    risen-by x = Rising l.keys l.tails c.args.n (set l.tree up x) up x (get_or l.keys x 0)

    go : (b : Bool) → c.is_ahead.result ≡ b → risen-by c.pick-page.result
    go true e =
        subst risen-by (sym (c.pick-page.ensures ∙ ap (λ (b : Bool). cond b c.loop-k.page q) e))
        (subst (Rising l.keys l.tails c.args.n (set l.tree up c.loop-k.page) up c.loop-k.page)
        c.loop-k.invariant.rising.key
        (rise-here c.requires.1 c.loop-k.invariant.rising c.loop-k-test.true q refl (sym c.is_ahead.ensures ∙ e)))
    go false e =
        subst risen-by (sym (c.pick-page.ensures ∙ ap (λ (b : Bool). cond b c.loop-k.page q) e))
        (rise-side c.requires.1 c.loop-k.invariant.rising c.loop-k-test.true q refl (sym c.is_ahead.ensures ∙ e))

pub returns-clause-won : goal.returns-clause-won
returns-clause-won c = risen c.requires.1 c.loop-k.invariant.rising (omega (arith, c.loop-k-test.false))
