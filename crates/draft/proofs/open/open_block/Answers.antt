use Rattle.std.proofs.Common.{◌≡◌, ◌∙◌, ap, ℕ, List, ◌+◌, ◌*◌, ◌≤◌, ◌<◌, length, arith, rules}
use Rattle.std.specs.Prelude.{Ok, Err}
use Rattle.lists.specs.Block.{block, set_block}
use Rattle.lists.specs.BlockLaws.{length-block, block_same, block-other}
use Rattle.draft.proofs.Shifting.{shift-insert}
use Rattle.draft.proofs.Opening.{lists-already, room-absent, lists-more, draft-more}
use Rattle.draft.proofs.open.open_block.Goals as goal

pub find_image-place-requires : goal.find_image-place-requires
find_image-place-requires c = (c.args.store.now, c.requires.1.draft.fits)

pub shift_images-requires : goal.shift_images-requires
shift_images-requires c =
    let r = c.requires.1 in
    let place = c.in-Err.ensures in
    (place.0, room-absent r.draft c.args.k c.in-Err.at place r.room, r.draft.eight)

pub put_block-requires : goal.put_block-requires
put_block-requires c =
    let r = c.requires.1 in
    let place = c.in-Err.ensures in
    let few = room-absent r.draft c.args.k c.in-Err.at place r.room in (
      omega (arith, place.0, few, c.shift_images.auto.images, r.draft.eight),
      ap length c.block_at.ensures
          ∙ length-block c.args.store.now c.args.k (omega (arith, r.inside, r.draft.whole)),
    )

pub list_number-requires : goal.list_number-requires
list_number-requires c =
    let r = c.requires.1 in
    let place = c.in-Err.ensures in
    (place.0, room-absent r.draft c.args.k c.in-Err.at place r.room)

pub returns-in-Ok : goal.returns-in-Ok
returns-in-Ok c =
    let change = c.args.draft.now.change in
    let at : ℕ = c.in-Ok.at in
    let w = c.in-Ok.ensures in
    record {
      lists = lists-already _ _ (at, w.0, w.1);
      inside = w.0;
      names = w.1;
      draft = λ d g. g;
    }

pub returns-in-Err : goal.returns-in-Err
returns-in-Err c =
    let s = c.args.store.now in
    let k = c.args.k in
    let old = c.args.draft.now in
    let r = c.requires.1 in
    let at : ℕ = c.in-Err.at in
    let place = c.in-Err.ensures in
    let less : old.change.count < 8 = room-absent r.draft k at place r.room in
    let up = c.shift_images in
    let p = c.put_block in
    let l = c.list_number in
    let full : length (block s k) ≡ 512 = length-block s k (omega (arith, r.inside, r.draft.whole)) in
    let size : length up.new.images ≡ 4096 = up.auto.images ∙ r.draft.eight in
    let here : 512 * at + 512 ≤ length up.new.images = omega (arith, place.0) in
    let stored : p.new.store ≡ set_block up.new.images at (block s k) = cc in
    let copied =
    shift-insert old.change.count (block old.images) at (block s k) (block up.new.images) (block p.new.store) place.0
    up.ensures
    (ap (λ (x : List ℕ). block x at) stored ∙ block_same up.new.images at (block s k) here full)
    (λ j h ne.
    ap (λ (x : List ℕ). block x j) stored
    ∙ block-other up.new.images at (block s k) here full j (omega arith) ne) in
    record {
      lists = lists-more r.draft k at place r.inside less l.new.change l.ensures.0 l.ensures.1;
      inside = omega (arith, place.0, l.ensures.0);
      names = l.ensures.1.here;
      draft =
          λ d g.
          draft-more g k at place r.inside less l.new.change l.ensures.0 l.ensures.1 p.new.store
          (p.auto.store ∙ size) copied;
    }
