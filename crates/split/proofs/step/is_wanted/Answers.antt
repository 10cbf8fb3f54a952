use Rattle.std.proofs.Common.{◌≡◌, ap, ap₂, ◌+◌, ◌*◌, ◌≤◌, nat_lt, arith}
use Rattle.std.proofs.Math.Nat.{mul-le-mul}
use Rattle.address.specs.Limits.{max_blocks}
use Rattle.model.specs.Index.{Index}
use Rattle.model.specs.Held.{wanted}
use Rattle.model.specs.WellFormed.{Laid}
use Rattle.image.specs.declared.Meta.{Meta}
use Rattle.image.specs.Layout.{meta_of}
use Rattle.image.proofs.BoundLaws.{max-small}
use Rattle.split.specs.BeginLaws.{field_next}
use Rattle.split.proofs.step.is_wanted.Goals as goal

pub overflow_add-result : goal.overflow_add-result
overflow_add-result c = let w = c.requires in omega (arith, field_next w.0 w.1 w.2, max-small w.0 w.1)

-- the pairs that the buckets have room for
product : (m : Meta) (x : Index) → Laid x → m ≡ meta_of x → m.fill * (m.max + 1) ≤ 40 * max_blocks
unfolding meta_of
product m x l e =
    let f : m.fill ≤ 40 = omega (arith, ap (λ (g : Meta). g.fill) e, l.fill_high) in
    let b : m.max + 1 ≤ max_blocks = omega (arith, field_next x l e, max-small x l) in
    mul-le-mul f b

pub overflow_mul-result : goal.overflow_mul-result
overflow_mul-result c = let w = c.requires in omega (arith, product c.args.m w.0 w.1 w.2)

pub returns : goal.returns
unfolding wanted meta_of
returns c x l e =
    ap₂ nat_lt (ap₂ ◌*◌ (ap (λ (g : Meta). g.fill) e) (field_next x l e)) (ap (λ (g : Meta). g.count) e)
