use Rattle.std.proofs.Common.{ap, ◌∙◌, w64, to_z, of_z, to_z-of_z}
use Rattle.amiqsovik.specs.Result.{twos_complement}
use Rattle.amiqsovik.specs.ResultLaws.{slack-stores}
use Rattle.amiqsovik.proofs.Signed.{bits-twos_complement}
use Rattle.amiqsovik.proofs.result.put_slack.Goals as goal

pub returns : goal.returns
returns c =
    slack-stores c.args.res.now c.args.slack
    (c.cast_unsigned-bits.ensures ∙ bits-twos_complement (to_z w64 (of_z w64 c.args.slack)) ∙ ap twos_complement (to_z-of_z c.ranges.slack))
    c.put_u32.ensures
    c.put_u32-2.ensures
