use Rattle.std.proofs.Common.{◌≡◌, sym, ap, ◌∙◌, arith}
use Rattle.store.specs.Change.{copies}
use Rattle.store.specs.CopyLaws.{copies-zero, copies-suc}
use Rattle.journal.specs.Journal.{count_in, name_in, image_in}
use Rattle.journal.proofs.Parts.{length-of-block}
use Rattle.journal.proofs.recovery.copy_images.Goals as goal

pub loop-i-init : goal.loop-i-init
loop-i-init c = sym (copies-zero c.args.store.now (name_in c.args.journal.now) (image_in c.args.journal.now))

pub put_block-requires : goal.put_block-requires
put_block-requires c =
    let i = c.loop-i.i in (
      omega (arith, c.requires.copying.inside i (omega arith), c.name_of-name.ensures),
      length-of-block _ c.args.journal.now _ c.block_at.ensures (omega arith),
    )

pub loop-i-preserved : goal.loop-i-preserved
loop-i-preserved c =
    let a = c.args in
    cc (copies-suc a.store.now (name_in a.journal.now) (image_in a.journal.now) c.loop-i.i)

pub returns : goal.returns
returns c =
    let a = c.args in
    let full : c.loop-i.i ≡ count_in a.journal.now = omega arith in
    c.loop-i.invariant ∙ ap (copies a.store.now (name_in a.journal.now) (image_in a.journal.now)) full
