use Rattle.std.proofs.Common.{sym, ◌∙◌}
use Rattle.image.specs.Decode.{decode}
use Rattle.insertion.specs.PutLaws.{put-room}
use Rattle.insertion.specs.PlacesLaws.{places-some, room_at-page, room_at-full, in-room}
use Rattle.insertion.proofs.put.plan_put.Goals as goal

pub put_in_page-requires : goal.put_in_page-requires
put_in_page-requires c =
    let a = c.args in
    let h = c.requires in
    let found = room_at-page (decode a.store.now) a.b _ (sym c.room_in-room.ensures ∙ c.in-Page.is) in
    (a.b, in-room h.reads.0 a.b h.reads.1 a.e a.held h.wf found)

pub put_at_end-requires : goal.put_at_end-requires
put_at_end-requires c =
    let a = c.args in
    let f = room_at-full (decode a.store.now) a.b _ (sym c.room_in-room.ensures ∙ c.in-Full.is) in
    record { reads = c.requires.reads; b_value = (f.room, f.page); wf = c.requires.wf }

pub returns-in-Page : goal.returns-in-Page
returns-in-Page c =
    let a = c.args in
    let h = c.requires in
    let found = room_at-page (decode a.store.now) a.b _ (sym c.room_in-room.ensures ∙ c.in-Page.is) in
    places-some (put-room (decode a.store.now) a.b a.e found.room)
    (c.put_in_page.ensures a.b (in-room h.reads.0 a.b h.reads.1 a.e a.held h.wf found))
