use Rattle.std.proofs.Common.{sym, ◌∙◌, arith}
use Rattle.page.specs.EntriesLaws.{length-entries_of}
use Rattle.chain.specs.Walk.{walk}
use Rattle.split.specs.OldChainLaws.{chain-page, chain-whole, chain-few, link-inside, link-next, front-more}
use Rattle.split.proofs.cursor.skip_pages.Goals as goal

pub block_at-page-requires : goal.block_at-page-requires
block_at-page-requires c = let i = c.loop-left.invariant in chain-whole c.requires.within.0 i.inside i.block

pub count_entries-count-requires : goal.count_entries-count-requires
count_entries-count-requires c =
    let i = c.loop-left.invariant in
    (chain-page c.requires.within.0 i.inside i.block c.block_at-page.ensures).whole

pub next_at-next-requires : goal.next_at-next-requires
next_at-next-requires c =
    let i = c.loop-left.invariant in
    (chain-page c.requires.within.0 i.inside i.block c.block_at-page.ensures).whole

pub loop-left-preserved : goal.loop-left-preserved
loop-left-preserved c =
    let i = c.loop-left.invariant in
    let w = c.requires.within in
    let on = chain-page w.0 i.inside i.block c.block_at-page.ensures in
    let number = c.count_entries-count.ensures ∙ sym (length-entries_of c.block_at-page.result.now) in
    let more = link-inside c.args.first on i.inside c.next_at-next.ensures w.2 c.if-next.false in
    record {
      inside = more;
      block = link-next c.args.first on i.inside c.next_at-next.ensures more;
      near = omega (arith, i.near);
      passed =
          omega (
            arith,
            i.near,
            i.passed,
            number,
            front-more c.args.store.now (walk c.args.store.now c.args.first) c.loop-left.index i.inside on,
          );
      few = omega (arith, i.near, i.few, number, chain-few on w.1);
    }
