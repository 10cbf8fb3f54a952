use Rattle.std.proofs.Common.{sym, ◌∙◌, arith}
use Rattle.plan.specs.SketchLaws.{ready}
use Rattle.removal.specs.CutLaws.{block_within, emptied-here, held-here, sketches-thinned}
use Rattle.removal.specs.CutLaws.{freed-some, freed-none}
use Rattle.removal.specs.FreedLaws.{freeable, sketches-freed}
use Rattle.removal.proofs.pages.cut_entry.Goals as goal

pub freed_by-freed-requires : goal.freed_by-freed-requires
freed_by-freed-requires c =
    let h = c.requires.4 in
    (h.findable.reads, block_within h)

pub free_page-requires : goal.free_page-requires
free_page-requires c =
    let a = c.requires in
    let h = a.4 in
    let e = c.freed_by-freed.ensures ∙ emptied-here h in
    (h.findable.sketches.d, a.0, freeable h (freed-some a.3 a.1 a.2 _ (sym e ∙ c.in-Some.is)))

pub remove_at-requires : goal.remove_at-requires
remove_at-requires c =
    let h = c.requires.4 in
    let f = h.findable in
    (f.sketches.d, ready f.sketches.sketch _ (block_within h) (omega (arith, f.few)), held-here h)

pub returns-in-Some : goal.returns-in-Some
returns-in-Some c n b p x h =
    let e = c.freed_by-freed.ensures ∙ emptied-here h in
    let goes = freed-some x b p _ (sym e ∙ c.in-Some.is) in
    (e, sketches-freed h goes (c.free_page.ensures h.findable.sketches.d n (freeable h goes)))

pub returns-in-None : goal.returns-in-None
returns-in-None c n b p x h =
    let e = c.freed_by-freed.ensures ∙ emptied-here h in
    (e, sketches-thinned h (freed-none x b p (sym e ∙ c.in-None.is)) c.remove_at.ensures)
