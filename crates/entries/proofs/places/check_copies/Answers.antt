use Rattle.std.proofs.Common.{◌≤◌, List, ap₂, ◌∙◌, arith}
use Rattle.lists.specs.Lists.{all}
use Rattle.lists.specs.Bytes.{Bytes}
use Rattle.page.specs.declared.Entry.{Entry}
use Rattle.image.specs.Decode.{max_at}
use Rattle.merge.specs.WalksLaws.{alone-pages}
use Rattle.reader.specs.KnownLaws.{max-is}
use Rattle.entries.specs.Tests.{marked_by}
use Rattle.entries.specs.WalkedLaws.{walk-within, walk-some, walk-pages, walk-merged}
use Rattle.entries.proofs.places.check_copies.Goals as goal

pub all_marked-requires-clause-new_pages : goal.all_marked-requires-clause-new_pages
all_marked-requires-clause-new_pages c =
    let k = c.requires.0 in
    let bytes : Bytes c.args.store.now = λ i. omega (arith, c.type_inv.store i) in
    let made : c.args.new ≤ max_at c.args.store.now = omega (arith, c.requires.1, max-is k.known.known.known) in
    let walked = c.walk_bucket-n.ensures in (
      alone-pages bytes (walk-within c.args.new made walked k.known) (walk-pages c.args.new made walked k),
      walk-some c.args.new made walked,
    )

pub all_marked-requires-clause-old_pages : goal.all_marked-requires-clause-old_pages
all_marked-requires-clause-old_pages c =
    let k = c.requires.0 in
    let bytes : Bytes c.args.store.now = λ i. omega (arith, c.type_inv.store i) in
    let made : c.args.old ≤ max_at c.args.store.now = omega (arith, c.requires.2, max-is k.known.known.known) in
    let walked = c.walk_bucket-k.ensures in (
      alone-pages bytes (walk-within c.args.old made walked k.known) (walk-pages c.args.old made walked k),
      walk-some c.args.old made walked,
    )

pub returns : goal.returns
returns c =
    let two = c.requires.0.known.known.known in
    let new-made : c.args.new ≤ max_at c.args.store.now = omega (arith, c.requires.1, max-is two) in
    let old-made : c.args.old ≤ max_at c.args.store.now = omega (arith, c.requires.2, max-is two) in
    c.all_marked.ensures
    ∙ ap₂ (λ (olds news : List Entry). all (marked_by olds) news) (walk-merged c.args.old old-made c.walk_bucket-k.ensures)
    (walk-merged c.args.new new-made c.walk_bucket-n.ensures)
