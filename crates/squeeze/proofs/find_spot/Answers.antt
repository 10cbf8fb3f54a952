use Rattle.std.proofs.Common.{sym, ◌∙◌, arith}
use Rattle.view.specs.ReadsLaws.{reads-max}
use Rattle.squeeze.specs.SpotLaws.{span-bounded, spot-full, spot-one, spot-two}
use Rattle.squeeze.proofs.find_spot.Goals as goal

pub first_room-room-requires : goal.first_room-room-requires
first_room-room-requires c =
    let w = c.requires.1.1 in
    span-bounded c.requires.0 c.requires.1.0 (omega (arith, w.made, reads-max c.requires.0)) w

pub returns-in_default : goal.returns-in_default
returns-in_default c b w =
    let r = c.requires.0 in
    spot-full r b (omega (arith, w.made, reads-max r)) w (sym c.first_room-room.ensures ∙ c.in_default.is)

pub returns-then-block-last : goal.returns-then-block-last
returns-then-block-last c b w =
    let r = c.requires.0 in
    spot-one r b (omega (arith, w.made, reads-max r)) w (sym c.first_room-room.ensures ∙ c.in-Page.is) c.if-block-last.true

pub returns : goal.returns
returns c b w =
    let r = c.requires.0 in
    spot-two r b (omega (arith, w.made, reads-max r)) w (sym c.first_room-room.ensures ∙ c.in-Page.is) c.if-block-last.false
