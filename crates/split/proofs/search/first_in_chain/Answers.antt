use Rattle.std.proofs.Common.{sym, ap, ◌∙◌, refl, ℕ, length, arith}
use Rattle.lists.specs.ListsLaws.{find-yes}
use Rattle.page.specs.Entries.{entries_of}
use Rattle.page.specs.EntriesLaws.{length-entries_of}
use Rattle.image.specs.Decode.{decode}
use Rattle.split.specs.Mover.{movable}
use Rattle.split.specs.Seek.{found_on}
use Rattle.split.specs.MoverLaws.{movable-same}
use Rattle.split.specs.OldChainLaws.{chain-page, chain-whole, chain-sorted, chain-few, link-inside, link-next, link-end}
use Rattle.split.proofs.Searching.{behind-spot, page-start, page-answers, page-found, page-located, page-later, walk_end}
use Rattle.split.proofs.search.first_in_chain.Goals as goal

pub loop-found-init : goal.loop-found-init
loop-found-init g c =
    let s = c.requires.spot_on in
    record { inside = s.inside; block = s.block; few = s.few; behind = λ b z a. behind-spot s (movable b _) z }

pub block_at-page-requires : goal.block_at-page-requires
block_at-page-requires g c =
    let i = c.loop-found.invariant in chain-whole c.requires.within.0 i.inside i.block

pub first_in_page-requires-clause-sorted : goal.first_in_page-requires-clause-sorted
first_in_page-requires-clause-sorted g c =
    let i = c.loop-found.invariant in
    chain-sorted (chain-page c.requires.within.0 i.inside i.block c.block_at-page.ensures) c.requires.within.1

pub overflow_add-result : goal.overflow_add-result
overflow_add-result g c =
    let i = c.loop-found.invariant in
    let w = c.requires.within in
    let on = chain-page w.0 i.inside i.block c.block_at-page.ensures in
    omega (arith, chain-few on w.1, c.in-Some.ensures.inside, w.0.few, i.few, i.inside)

pub returns-in-Some-clause-searches : goal.returns-in-Some-clause-searches
returns-in-Some-clause-searches g c b z a =
    let i = c.loop-found.invariant in
    let w = c.requires.within in
    let on = chain-page w.0 i.inside i.block c.block_at-page.ensures in
    let h = i.behind b z a in
    let t = movable b (decode c.args.store.now) in
    let es = entries_of c.block_at-page.result.now in
    let found =
    c.in-Some.ensures.seeks t
    (page-start h i.inside on _ c.saturating_sub-start.ensures z)
    (page-answers h i.inside on c.saturating_sub-start.ensures a) in (
      page-found h i.inside on found,
      page-located h i.inside on found.0 (movable-same b _ _ (find-yes t es _ found.0).0)
          ∙ ap (λ (k : ℕ). found_on k es c.in-Some.found.entry.pair) (sym i.block)
          ∙ c.in-Some.ensures.located,
    )

pub returns-in-Some-clause-result_bound : goal.returns-in-Some-clause-result_bound
returns-in-Some-clause-result_bound g c =
    let i = c.loop-found.invariant in
    let w = c.requires.within in
    let on = chain-page w.0 i.inside i.block c.block_at-page.ensures in
    omega (arith, chain-few on w.1, c.in-Some.ensures.inside, w.0.few, i.few, i.inside)

pub next_at-next-requires : goal.next_at-next-requires
next_at-next-requires g c =
    let i = c.loop-found.invariant in
    (chain-page c.requires.within.0 i.inside i.block c.block_at-page.ensures).whole

pub count_entries-passed-requires : goal.count_entries-passed-requires
count_entries-passed-requires g c =
    let i = c.loop-found.invariant in
    (chain-page c.requires.within.0 i.inside i.block c.block_at-page.ensures).whole

pub returns-then-next-clause-searches : goal.returns-then-next-clause-searches
returns-then-next-clause-searches g c b z a =
    let i = c.loop-found.invariant in
    let w = c.requires.within in
    let on = chain-page w.0 i.inside i.block c.block_at-page.ensures in
    let h = i.behind b z a in
    let t = movable b (decode c.args.store.now) in
    let es = entries_of c.block_at-page.result.now in
    let none =
    c.in_default.ensures.seeks t
    (page-start h i.inside on _ c.saturating_sub-start.ensures z)
    (page-answers h i.inside on c.saturating_sub-start.ensures a) in (
      walk_end (page-later h i.inside on none (length es) refl (chain-few on w.1))
          (link-end c.args.first on i.inside c.next_at-next.ensures c.if-next.true),
      tt,
    )

pub overflow_add-passed : goal.overflow_add-passed
overflow_add-passed g c =
    let i = c.loop-found.invariant in
    let w = c.requires.within in
    let on = chain-page w.0 i.inside i.block c.block_at-page.ensures in
    omega (
      arith,
      chain-few on w.1,
      c.count_entries-passed.ensures,
      length-entries_of c.block_at-page.result.now,
      w.0.few,
      i.few,
      i.inside,
    )

pub loop-found-preserved : goal.loop-found-preserved
loop-found-preserved g c =
    let i = c.loop-found.invariant in
    let w = c.requires.within in
    let on = chain-page w.0 i.inside i.block c.block_at-page.ensures in
    let es = entries_of c.block_at-page.result.now in
    let number = c.count_entries-passed.ensures ∙ sym (length-entries_of c.block_at-page.result.now) in
    let more = link-inside c.args.first on i.inside c.next_at-next.ensures w.2 c.if-next.false in
    record {
      inside = more;
      block = link-next c.args.first on i.inside c.next_at-next.ensures more;
      few = omega (arith, i.few, number, chain-few on w.1);
      behind =
          λ b z a.
          let h = i.behind b z a in
          let t = movable b (decode c.args.store.now) in
          let none =
          c.in_default.ensures.seeks t
          (page-start h i.inside on _ c.saturating_sub-start.ensures z)
          (page-answers h i.inside on c.saturating_sub-start.ensures a) in
          page-later h i.inside on none c.count_entries-passed.result number (omega (arith, number, chain-few on w.1));
    }
