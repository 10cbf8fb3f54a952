use Rattle.std.proofs.Common.{ap, arith}
use Rattle.address.specs.Address.{point}
use Rattle.model.proofs.BoundLaws.{laid-point}
use Rattle.image.proofs.BoundLaws.{max-small}
use Rattle.split.specs.BeginLaws.{point-small, field_next, field-point, next-meta}
use Rattle.split.proofs.begin.begin_fields.Goals as goal

pub overflow_add-max : goal.overflow_add-max
overflow_add-max c = let w = c.requires in omega (arith, field_next w.0 w.1 w.2, max-small w.0 w.1)

pub bounds-spares-m : goal.bounds-spares-m
bounds-spares-m c = let w = c.requires in omega (arith, field-point w.0 w.1 w.2, laid-point w.0 w.1)

pub bounds-spares-point : goal.bounds-spares-point
bounds-spares-point c =
    let w = c.requires in
    omega (arith, c.point_of-point.ensures, ap point (field_next w.0 w.1 w.2), point-small w.0 w.1)

pub returns : goal.returns
returns c x y l e b n =
    next-meta x l y b c.args.m e n _ c.high_mask.result c.low_mask.result c.point_of-point.result (field_next x l e)
    c.high_mask.ensures c.low_mask.ensures c.point_of-point.ensures
