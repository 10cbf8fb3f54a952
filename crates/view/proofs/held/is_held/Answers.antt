use Rattle.std.proofs.Common.{ap, is_some, ◌∙◌}
use Rattle.image.specs.Decode.{decode}
use Rattle.view.specs.HeldLaws.{is_some-held_at}
use Rattle.view.proofs.held.is_held.Goals as goal

pub returns : goal.returns
returns c =
    c.is_some.ensures
    ∙ ap is_some c.find_held.ensures
    ∙ is_some-held_at (decode c.args.store.now) c.requires.wf c.args.pair
