use Rattle.std.proofs.Common.{◌≡◌, sym, ap, ap₂, ◌∙◌, ℕ, ◌+◌, ◌*◌, ◌≤◌, get_or, nat_le, arith}
use Rattle.address.specs.Limits.{max_blocks}
use Rattle.address.specs.Address.{buckets_at, point}
use Rattle.model.specs.Index.{Index}
use Rattle.model.specs.WellFormed.{Laid}
use Rattle.model.proofs.BoundLaws.{laid-point}
use Rattle.image.specs.declared.Meta.{Meta}
use Rattle.image.specs.Layout.{meta_of}
use Rattle.image.proofs.BoundLaws.{max-small, top_small}
use Rattle.split.specs.BeginLaws.{point-small, buckets-small, begin-room, field_next, field-point, field_top}
use Rattle.split.specs.BeginLaws.{field-size}
use Rattle.split.proofs.begin.has_room.Goals as goal

pub bounds-spares-m : goal.bounds-spares-m
bounds-spares-m c = let w = c.requires in omega (arith, field-point w.0 w.1 w.2, laid-point w.0 w.1)

pub overflow_add-m : goal.overflow_add-m
overflow_add-m c = let w = c.requires in omega (arith, field_next w.0 w.1 w.2, max-small w.0 w.1)

pub buckets_at-requires : goal.buckets_at-requires
buckets_at-requires c =
    let w = c.requires in
    omega (arith, c.point_of.ensures, ap point (field_next w.0 w.1 w.2), point-small w.0 w.1)

-- the blocks of the buckets at the new one's point, and the overflow pages made
few : {m : Meta} (x : Index) → Laid x → m ≡ meta_of x → {p b : ℕ} → p ≡ point (m.max + 1) → b ≡ buckets_at p
    → b + get_or m.spares m.point 0 ≤ 2 * max_blocks
few x l e {p} at is =
    omega (
      arith,
      is,
      ap buckets_at (at ∙ ap point (field_next x l e)),
      buckets-small x l,
      field_top x l e,
      top_small x l,
    )

pub overflow_add-result : goal.overflow_add-result
overflow_add-result c =
    let w = c.requires in omega (arith, few w.0 w.1 w.2 c.point_of.ensures c.buckets_at.ensures)

pub overflow_add-result-2 : goal.overflow_add-result-2
overflow_add-result-2 c =
    let w = c.requires in omega (arith, few w.0 w.1 w.2 c.point_of.ensures c.buckets_at.ensures)

pub returns : goal.returns
returns c x l e =
    let n = c.buckets_at.ensures ∙ ap buckets_at (c.point_of.ensures ∙ ap point (field_next x l e)) in
    ap₂ nat_le (ap₂ (λ (j k : ℕ). j + k + 1) n (field_top x l e)) (field-size x l e) ∙ sym (begin-room x l)
