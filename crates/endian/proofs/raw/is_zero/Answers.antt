use Rattle.std.proofs.Common.{◌==◌, ◌-◌, ap, ◌∙◌, arith, take, drop, take_all}
use Rattle.std.specs.List.{list_all}
use Rattle.lists.specs.Bytes.{part, all_zero}
use Rattle.endian.proofs.PutLaws.{list_all-all}
use Rattle.endian.proofs.raw.is_zero.Goals as goal

pub returns : goal.returns
unfolding part all_zero
returns c =
    let a = c.args in
    let bytes = take (a.to - a.from) (drop a.from a.p.now) in
    c.loop-byte.invariant
    ∙ ap (list_all (λ b. b == 0)) (take_all c.loop-byte.byte-index bytes (omega arith))
    ∙ list_all-all (λ b. b == 0) bytes
