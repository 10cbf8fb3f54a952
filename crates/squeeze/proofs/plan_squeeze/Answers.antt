use Rattle.std.proofs.Common.{refl, sym, ap, ◌∙◌, subst, cond, eqb, ℕ, List, ◌-◌, ◌≤◌, length, arith}
use Rattle.endian.specs.Endian.{u16_at}
use Rattle.page.specs.Entries.{entry_at}
use Rattle.store.specs.Store.{prev_at}
use Rattle.model.specs.Index.{Index}
use Rattle.image.specs.Decode.{decode}
use Rattle.view.specs.ReadsLaws.{reads_whole, reads-block, reads-max}
use Rattle.squeeze.specs.Span.{Spans}
use Rattle.squeeze.specs.SpotLaws.{spot-at, halts, moves-on, moves-to, last_under, last_some, last-few}
use Rattle.squeeze.specs.SpotLaws.{last-number, goes}
use Rattle.squeeze.specs.SpanLaws.{span-next}
use Rattle.squeeze.proofs.plan_squeeze.Goals as goal

pub returns-in_default-clause-advances : goal.returns-in_default-clause-advances
returns-in_default-clause-advances c b w =
    halts (decode c.args.store.now) b (sym c.in_default.is ∙ c.find_spot.ensures b w) refl c.clear.ensures.count_value

pub block_at-page-requires : goal.block_at-page-requires
block_at-page-requires c =
    let r = c.requires.0 in
    let b = c.requires.1.0 in
    let w = c.requires.1.1 in
    let made : b ≤ c.args.m.max = omega (arith, w.made, reads-max r) in
    let two = spot-at (decode c.args.store.now) b _ (c.in-Some.ensures b w) in
    reads_whole r _ (last_under r b made two)

pub count_entries-slot-requires : goal.count_entries-slot-requires
count_entries-slot-requires c =
    let r = c.requires.0 in
    let b = c.requires.1.0 in
    let w = c.requires.1.1 in
    let made : b ≤ c.args.m.max = omega (arith, w.made, reads-max r) in
    let two = spot-at (decode c.args.store.now) b _ (c.in-Some.ensures b w) in
    ap length c.block_at-page.ensures ∙ reads-block r _ (last_under r b made two)

pub overflow_sub-slot : goal.overflow_sub-slot
overflow_sub-slot c =
    let r = c.requires.0 in
    let b = c.requires.1.0 in
    let w = c.requires.1.1 in
    let made : b ≤ c.args.m.max = omega (arith, w.made, reads-max r) in
    let two = spot-at (decode c.args.store.now) b _ (c.in-Some.ensures b w) in
    let number = c.count_entries-slot.ensures ∙ ap (λ (l : List ℕ). u16_at l 0) c.block_at-page.ensures in
    omega (arith, number, last_some r b made two)

pub get_entry-e-requires : goal.get_entry-e-requires
get_entry-e-requires c =
    let r = c.requires.0 in
    let b = c.requires.1.0 in
    let w = c.requires.1.1 in
    let made : b ≤ c.args.m.max = omega (arith, w.made, reads-max r) in
    let two = spot-at (decode c.args.store.now) b _ (c.in-Some.ensures b w) in
    let number = c.count_entries-slot.ensures ∙ ap (λ (l : List ℕ). u16_at l 0) c.block_at-page.ensures in (
      omega (arith, number, last_some r b made two, last-few r b made two),
      ap length c.block_at-page.ensures ∙ reads-block r _ (last_under r b made two),
    )

pub last_after-end-requires : goal.last_after-end-requires
last_after-end-requires c =
    let r = c.requires.0 in
    let b = c.requires.1.0 in
    let w = c.requires.1.1 in
    let made : b ≤ c.args.m.max = omega (arith, w.made, reads-max r) in
    let two = spot-at (decode c.args.store.now) b _ (c.in-Some.ensures b w) in
    ap length c.block_at-page.ensures ∙ reads-block r _ (last_under r b made two)

pub overflow_cast-slot : goal.overflow_cast-slot
overflow_cast-slot c =
    let r = c.requires.0 in
    let b = c.requires.1.0 in
    let w = c.requires.1.1 in
    let made : b ≤ c.args.m.max = omega (arith, w.made, reads-max r) in
    let two = spot-at (decode c.args.store.now) b _ (c.in-Some.ensures b w) in
    let number = c.count_entries-slot.ensures ∙ ap (λ (l : List ℕ). u16_at l 0) c.block_at-page.ensures in
    omega (arith, number, last-few r b made two)

pub plan_move-requires : goal.plan_move-requires
plan_move-requires c =
    let r = c.requires.0 in
    let b = c.requires.1.0 in
    let w = c.requires.1.1 in
    let made : b ≤ c.args.m.max = omega (arith, w.made, reads-max r) in
    let two = spot-at (decode c.args.store.now) b _ (c.in-Some.ensures b w) in
    let number = c.count_entries-slot.ensures ∙ ap (λ (l : List ℕ). u16_at l 0) c.block_at-page.ensures in (
      b,
      goes r b made two (omega (arith, number, last_some r b made two))
          (c.get_entry-e.ensures ∙ ap (λ (l : List ℕ). entry_at l (c.count_entries-slot.result - 1)) c.block_at-page.ensures),
    )

pub returns : goal.returns
returns c =
    let r = c.requires.0 in
    let x = decode c.args.store.now in
    let number = c.count_entries-slot.ensures ∙ ap (λ (l : List ℕ). u16_at l 0) c.block_at-page.ensures in
    let entry = c.get_entry-e.ensures ∙ ap (λ (l : List ℕ). entry_at l (c.count_entries-slot.result - 1)) c.block_at-page.ensures in
    record {
      advances =
          λ b w.
          let made : b ≤ c.args.m.max = omega (arith, w.made, reads-max r) in
          let two = spot-at x b _ (c.in-Some.ensures b w) in
          let m = goes r b made two (omega (arith, number, last_some r b made two)) entry in
          moves-on x b _ _ m.moves (c.plan_move.ensures _ m);
      leads =
          λ b w y k.
          let made : b ≤ c.args.m.max = omega (arith, w.made, reads-max r) in
          let two = spot-at x b _ (c.in-Some.ensures b w) in
          let some : 1 ≤ c.count_entries-slot.result = omega (arith, number, last_some r b made two) in
          let m = goes r b made two (omega (arith, number, some)) entry in
          subst (λ (z : Index). Spans z b (record { first = c.in-Some.spot.target; last = c.last_after-end.result }))
          (moves-to x b _ m.moves y k)
          (span-next m two.last-is (omega (arith, number, some, last-number r b made two)) refl
          (c.last_after-end.ensures
          ∙ ap (λ (d : List ℕ). cond (eqb (c.count_entries-slot.result - 1) 0) (prev_at d) c.in-Some.spot.last)
          c.block_at-page.ensures));
    }
