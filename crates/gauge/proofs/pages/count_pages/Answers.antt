use Rattle.std.proofs.Common.{◌≡◌, ap₂, ◌∙◌, ◌+◌, arith}
use Rattle.image.specs.Decode.{decode}
use Rattle.image.specs.Rules.{map_at, top_at}
use Rattle.reader.specs.KnownLaws.{known-addressed, top-is, top_small, map-full}
use Rattle.view.specs.ReadsLaws.{reads-laid, reads_known, reads-max}
use Rattle.gauge.specs.Gauge.{pages}
use Rattle.gauge.specs.Ones.{ones_in}
use Rattle.gauge.specs.PagesLaws.{pages-ones, pages-few, ones-read}
use Rattle.gauge.proofs.pages.count_pages.Goals as goal
use Rattle.gauge.proofs.pages.count_pages.Goals.{After-count_ones-ones}

-- the number that the code works out
sum : (c : After-count_ones-ones) → c.args.m.max + c.count_ones-ones.result ≡ pages (decode c.args.store.now)
sum c =
    let r = c.requires in
    let n : c.count_ones-ones.result ≡ ones_in (map_at c.args.store.now) (top_at c.args.store.now) =
    c.count_ones-ones.ensures ∙ ap₂ ones_in c.map_of.ensures (c.top_of.ensures ∙ top-is (reads_known r)) in
    omega (arith, n, ones-read r, reads-max r, pages-ones (decode c.args.store.now) (reads-laid r))

pub map_of-requires : goal.map_of-requires
map_of-requires c = reads_known c.requires

pub top_of-requires : goal.top_of-requires
top_of-requires c = known-addressed (reads_known c.requires)

pub count_ones-ones-requires : goal.count_ones-ones-requires
count_ones-ones-requires c =
    let k = reads_known c.requires in
    (map-full k c.map_of.result.now c.map_of.ensures, omega (arith, c.top_of.ensures, top-is k, top_small k))

pub overflow_add-result : goal.overflow_add-result
overflow_add-result c =
    let l = reads-laid c.requires in
    omega (arith, sum (goal.at.overflow_add-result c).After-count_ones-ones, pages-few (decode c.args.store.now) l, l.size)

pub returns : goal.returns
returns c = sum (goal.at.returns c).After-count_ones-ones
