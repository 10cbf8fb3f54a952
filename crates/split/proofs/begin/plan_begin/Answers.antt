use Rattle.std.proofs.Common.{sym, ◌∙◌, subst, true, false}
use Rattle.std.proofs.Math.Option.{Option}
use Rattle.model.specs.Index.{Index}
use Rattle.model.specs.Steps.{begin}
use Rattle.image.specs.Decode.{decode}
use Rattle.view.specs.ReadsLaws.{reads-laid, reads-meta}
use Rattle.plan.specs.Plan.{Places, placed, full}
use Rattle.split.specs.BegunLaws.{some_is, none_is}
use Rattle.split.proofs.begin.plan_begin.Goals as goal

pub has_room-requires : goal.has_room-requires
has_room-requires c =
    let r = c.requires.reads in
    (decode c.args.store.now, reads-laid r, reads-meta r)

pub returns-then-not-has_room : goal.returns-then-not-has_room
returns-then-not-has_room c =
    let r = c.requires.reads in
    let x = decode c.args.store.now in
    let none = none_is (begin x) (sym (c.has_room.ensures x (reads-laid r) (reads-meta r)) ∙ c.if-not-has_room.true) in
    subst (λ (o : Option Index). Places c.args.store.now c.clear.new.draft.change c.clear.new.draft.images o false)
    (sym none) (full c.clear.ensures.count_value)

pub begin_split-requires : goal.begin_split-requires
begin_split-requires c =
    let r = c.requires.reads in
    let x = decode c.args.store.now in
    record {
      reads = r;
      store_value = c.requires.store_value;
      store_value_2 = some_is (begin x) (sym (c.has_room.ensures x (reads-laid r) (reads-meta r)) ∙ c.if-not-has_room.false);
    }

pub returns : goal.returns
returns c =
    let r = c.requires.reads in
    let x = decode c.args.store.now in
    let w = some_is (begin x) (sym (c.has_room.ensures x (reads-laid r) (reads-meta r)) ∙ c.if-not-has_room.false) in
    subst (λ (o : Option Index). Places c.args.store.now c.begin_split.new.draft.change c.begin_split.new.draft.images o true)
    (sym w.1) (placed (c.begin_split.ensures w.0 w.1))
