use Rattle.std.proofs.Common.{◌≡◌, sym, ap, ◌∙◌, arith, rules, ◌≤◌, length}
use Rattle.journal.specs.Journal.{Disk}
use Rattle.index.specs.SoundLaws.{sound-first}
use Rattle.index.specs.WrittenLaws.{makes-store, plan-count, plan-inside, plan-writes, none-writes, none-makes}
use Rattle.index.proofs.written.write_change.Goals as goal

pub returns-then-change-eq0-clause-images_value : goal.returns-then-change-eq0-clause-images_value
returns-then-change-eq0-clause-images_value c =
    none-writes c.args.store.now c.args.change c.args.images.now c.if-change-eq0.true c.args.journal.now

pub returns-then-change-eq0-clause-store_after : goal.returns-then-change-eq0-clause-store_after
returns-then-change-eq0-clause-store_after c =
    none-makes c.args.store.now c.args.change c.args.images.now c.if-change-eq0.true

pub list_stores-requires-clause-in_bounds : goal.list_stores-requires-clause-in_bounds
list_stores-requires-clause-in_bounds c = (sound-first c.requires.sound.0, c.requires.sound.1.fits.few)

pub run_plan-requires-clause-journal_len : goal.run_plan-requires-clause-journal_len
run_plan-requires-clause-journal_len c =
    let a = c.args in
    let r = c.requires.sound.0 in
    let t = c.requires.sound.1 in
    let eight : length a.change.numbers ≡ 8 = search rules in
    let few : a.change.count ≤ 8 = t.fits.few in
    let some : 1 ≤ a.change.count = omega arith in
    let long : 5632 ≤ length c.list_stores.new.plan = omega arith in
    let n = plan-count r t c.requires.journal_len.1 eight some _ c.list_stores.ensures long in
    (c.requires.journal_len.0, long, omega arith)

pub run_plan-requires-clause-by_index : goal.run_plan-requires-clause-by_index
run_plan-requires-clause-by_index c =
    let a = c.args in
    let r = c.requires.sound.0 in
    let t = c.requires.sound.1 in
    let eight : length a.change.numbers ≡ 8 = search rules in
    let few : a.change.count ≤ 8 = t.fits.few in
    let some : 1 ≤ a.change.count = omega arith in
    let long : 5632 ≤ length c.list_stores.new.plan = omega arith in
    plan-inside r t c.requires.journal_len.1 eight some _ c.list_stores.ensures long

pub returns-clause-images_value : goal.returns-clause-images_value
returns-clause-images_value c =
    let a = c.args in
    let r = c.requires.sound.0 in
    let t = c.requires.sound.1 in
    let eight : length a.change.numbers ≡ 8 = search rules in
    let few : a.change.count ≤ 8 = t.fits.few in
    let some : 1 ≤ a.change.count = omega arith in
    let long : 5632 ≤ length c.list_stores.new.plan = omega arith in
    plan-writes r t c.requires.journal_len.1 eight some _ c.list_stores.ensures long a.journal.now _ c.run_plan.ensures

pub returns-clause-store_after : goal.returns-clause-store_after
returns-clause-store_after c =
    let a = c.args in
    let r = c.requires.sound.0 in
    let t = c.requires.sound.1 in
    let eight : length a.change.numbers ≡ 8 = search rules in
    let few : a.change.count ≤ 8 = t.fits.few in
    let some : 1 ≤ a.change.count = omega arith in
    let long : 5632 ≤ length c.list_stores.new.plan = omega arith in
    let j = a.journal.now in
    let done = plan-writes r t c.requires.journal_len.1 eight some _ c.list_stores.ensures long j _ c.run_plan.ensures in
    ap (λ (d : Disk). d.store) (sym done) ∙ makes-store r t c.requires.journal_len.1 eight j
