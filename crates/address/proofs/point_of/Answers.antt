use Rattle.std.proofs.Common.{ap, arith, sym, ◌∙◌}
use Rattle.address.specs.Address.{point}
use Rattle.address.specs.PointLaws.{point-zero, point-bucket_point}
use Rattle.address.proofs.point_of.Goals as goal

pub returns-then-max-eq0 : goal.returns-then-max-eq0
returns-then-max-eq0 c = sym (ap point c.if-max-eq0.true ∙ point-zero)

pub returns : goal.returns
returns c = c.point_of_bucket.ensures ∙ sym (point-bucket_point c.args.max (omega arith))
