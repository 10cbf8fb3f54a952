use Rattle.std.proofs.Common.{◌≡◌, ◌∙◌, refl, sym, ap, ap₂, Bool, true, false, not, ℕ, List, ◌+◌, ◌*◌, ◌≤◌, length, get_or, arith, rules}
use Rattle.lists.specs.BlockLaws.{length-block}
use Rattle.store.specs.Store.{covered}
use Rattle.draft.specs.Trim.{alike}
use Rattle.draft.proofs.Trimming.{stands, sort-start, sort-drop, sort-keep, sort-end}
use Rattle.draft.proofs.trim.drop_unchanged.Goals as goal
use Rattle.draft.proofs.trim.drop_unchanged.Goals.{else-not-same_bytes, then-not-same_bytes}

pub loop-i-init : goal.loop-i-init
loop-i-init c =
    let a = c.args.draft.now in
    rw c.clear.ensures.images_value (sort-start a.images c.requires (search rules) _ c.clear.ensures.count_value)

pub same_bytes-requires : goal.same_bytes-requires
same_bytes-requires c = (
  ap length c.block_at.ensures ∙ length-block c.args.store.now _ (c.requires.inside c.loop-i.i c.loop-i-test.true),
  ap length c.block_at-in-loop-i.ensures
      ∙ length-block c.loop-i.draft.images c.loop-i.i (omega (arith, c.loop-i.invariant.eight, c.requires.few)),
)

pub loop-i-preserved : goal.loop-i-preserved
loop-i-preserved c =
    let l = c.loop-i in
    let images = c.args.draft.now.images in
    let small = c.loop-i-test.true in
    let tested : c.same_bytes.result ≡ stands c.args.store.now c.args.draft.now.change.numbers images l.i =
    c.same_bytes.ensures
    ∙ ap₂ (λ (x y : List ℕ). alike (covered x) (covered y)) c.block_at.ensures
    (c.block_at-in-loop-i.ensures ∙ l.invariant.rest l.i (omega arith) small) in
    elim c.if-not-same_bytes.branch [
      | then-not-same_bytes w ↦
          rw w.draft-is
          (sort-keep images c.requires small l.invariant w.keep_image.new.draft.images
          (sym tested ∙ w.if-not-same_bytes.true) w.keep_image.ensures.kept w.keep_image.ensures.images_after)
      | else-not-same_bytes w ↦
          rw w.draft-is (sort-drop images c.requires small l.invariant (sym tested ∙ w.if-not-same_bytes.false))
    ]

pub returns : goal.returns
returns c d g =
    let l = c.loop-i in
    let full : l.i ≡ c.args.draft.now.change.count = omega arith in
    sort-end g (rw full at l.invariant)
