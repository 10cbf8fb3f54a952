use Rattle.std.proofs.Common.{◌≡◌, ◌≤◌, ◌<◌, List, ℕ, length, ap, ◌∙◌, arith}
use Rattle.page.specs.Entries.{entries_of}
use Rattle.page.specs.Places.{place_of}
use Rattle.page.specs.PlaceLaws.{place-le}
use Rattle.merge.specs.Heads.{page_at}
use Rattle.merge.specs.HeadLaws.{heads-next, from_next}
use Rattle.merge.proofs.Merge.put_heads.Goals as goal
use Rattle.merge.proofs.Merge.put_heads.Goals.{After-find_place-slot}

-- the slot is the sorted place of the pair in the page
slot_is : (c : After-find_place-slot)
    → c.find_place-slot.result ≡ place_of c.args.from (page_at c.args.store.now c.args.pages.now c.loop-i.i)
slot_is c =
    c.find_place-slot.ensures ∙ ap (λ (l : List ℕ). place_of c.args.from (entries_of l)) c.page_at.ensures.0

slot-few : (c : After-find_place-slot) → c.find_place-slot.result ≤ 40
slot-few c =
    omega (
      arith,
      slot_is c,
      place-le c.args.from (page_at c.args.store.now c.args.pages.now c.loop-i.i),
      (c.requires.allowed c.loop-i.i c.loop-i-test.true).few,
    )

pub put_head-requires : goal.put_head-requires
put_head-requires c = (c.requires, c.loop-i-test.true, slot-few (goal.at.put_head-requires c).After-find_place-slot)

pub loop-i-preserved : goal.loop-i-preserved
loop-i-preserved c =
    let p = (goal.at.loop-i-preserved c).After-find_place-slot in
    let inv = c.loop-i.invariant in
    let l = c.loop-i.self in
    let e = c.put_head.ensures in
    let in-keys : c.loop-i.i < length l.keys = omega (arith, c.requires.few, inv.0.keys-size) in
    let in-tails : c.loop-i.i < length l.tails = omega (arith, c.requires.few, inv.0.tails-size) in (
      rw (e.keys_after, e.tails_after)
          (heads-next c.args.store.now c.args.pages.now l.keys l.tails c.loop-i.i c.find_place-slot.result in-keys in-tails
          (slot-few p) inv.0),
      rw e.tails_after
          (from_next c.args.store.now c.args.pages.now l.keys l.tails c.loop-i.i c.find_place-slot.result in-keys in-tails
          (slot-few p) c.args.from (slot_is p) inv.1),
    )
