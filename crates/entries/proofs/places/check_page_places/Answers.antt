use Rattle.std.proofs.Common.{Bool, ◌≤◌, ◌<◌, sym, ap, ◌∙◌, arith}
use Rattle.lists.specs.Lists.{all}
use Rattle.endian.specs.Endian.{u16_at}
use Rattle.address.specs.Address.{bucket_of}
use Rattle.page.specs.declared.Entry.{Entry}
use Rattle.page.proofs.RuleLaws.{number-le}
use Rattle.entries.specs.declared.Bucket.{Bucket}
use Rattle.shape.specs.LoopLaws.{passed, failed, rest-start, rest-turn, rest-done}
use Rattle.entries.specs.Tests.{stands_in}
use Rattle.entries.proofs.places.check_page_places.Goals as goal

abbrev may : Bucket → Entry → Bool
may b e = stands_in b.phase (bucket_of b.max e.pair.hash) b.number

pub loop-i-init : goal.loop-i-init
loop-i-init c = ap (all (may c.args.bucket)) (rest-start c.args.page.now)

pub get_entry-requires : goal.get_entry-requires
get_entry-requires c =
    (omega (arith, c.count_entries-i-end.ensures, number-le c.args.page.now c.requires.number), c.requires.whole)

pub returns-then-not-may_hold : goal.returns-then-not-may_hold
returns-then-not-may_hold c =
    let a = c.args in
    let more : c.loop-i.i < u16_at a.page.now 0 = omega (arith, c.count_entries-i-end.ensures) in
    let t = may a.bucket in
    let turn = ap (all t) (rest-turn a.page.now c.loop-i.i more) in
    let test = sym (c.may_hold.ensures ∙ ap t c.get_entry.ensures) in
    sym (sym c.loop-i.invariant ∙ failed _ _ _ turn (test ∙ c.if-not-may_hold.true))

pub loop-i-preserved : goal.loop-i-preserved
loop-i-preserved c =
    let a = c.args in
    let more : c.loop-i.i < u16_at a.page.now 0 = omega (arith, c.count_entries-i-end.ensures) in
    let t = may a.bucket in
    let turn = ap (all t) (rest-turn a.page.now c.loop-i.i more) in
    let test = sym (c.may_hold.ensures ∙ ap t c.get_entry.ensures) in
    passed _ _ _ turn (test ∙ c.if-not-may_hold.false) ∙ c.loop-i.invariant

pub returns : goal.returns
returns c =
    let a = c.args in
    let past : u16_at a.page.now 0 ≤ c.loop-i.i = omega (arith, c.count_entries-i-end.ensures) in
    sym (sym c.loop-i.invariant ∙ ap (all (may a.bucket)) (rest-done a.page.now c.loop-i.i past))
