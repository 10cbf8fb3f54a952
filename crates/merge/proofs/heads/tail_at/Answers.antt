use Rattle.std.proofs.Common.{◌∷◌, suc, ◌≤◌, ◌<◌, drop, sym, ap, ◌∙◌, arith}
use Rattle.endian.specs.Endian.{u16_at}
use Rattle.page.specs.declared.Entry.{Entry}
use Rattle.page.specs.Entries.{entries_of}
use Rattle.page.proofs.RuleLaws.{number-le}
use Rattle.merge.specs.Heads.{tail_of}
use Rattle.merge.specs.HeadLaws.{left-done, left-more}
use Rattle.merge.proofs.heads.tail_at.Goals as goal

pub returns-then-count_entries-slot : goal.returns-then-count_entries-slot
returns-then-count_entries-slot c =
    let past : u16_at c.args.page.now 0 ≤ c.args.slot = omega (arith, c.count_entries.ensures) in
    sym (ap (tail_of c.args.slot) (left-done c.args.page.now c.args.slot past))

pub get_entry-requires : goal.get_entry-requires
get_entry-requires c =
    (omega (arith, c.count_entries.ensures, number-le c.args.page.now c.requires.0.number), c.requires.0.whole)

pub returns : goal.returns
returns c =
    let page = c.args.page.now in
    let slot = c.args.slot in
    let below : slot < u16_at page 0 = omega (arith, c.count_entries.ensures) in
    ap (λ (e : Entry). tail_of slot (e ∷ drop (suc slot) (entries_of page))) c.get_entry.ensures
    ∙ sym (ap (tail_of slot) (left-more page slot below))
