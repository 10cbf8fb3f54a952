use Rattle.removal.proofs.Unlinking.{link-ready, linked-none, linked-some}
use Rattle.removal.proofs.pages.link_back.Goals as goal

pub returns-then-next-eq-NO_LINK : goal.returns-then-next-eq-NO_LINK
returns-then-next-eq-NO_LINK c d n a = linked-none a c.args.prev c.if-next-eq-NO_LINK.true

pub put_prev-requires : goal.put_prev-requires
put_prev-requires c =
    let a = c.requires in
    (a.0, link-ready a.2 c.if-next-eq-NO_LINK.false)

pub returns : goal.returns
returns c d n a =
    let w = c.put_prev in
    linked-some a c.args.prev c.if-next-eq-NO_LINK.false w.ensures
