use Rattle.std.proofs.Common.{ℕ, ap, rules}
use mir.Syntax.{w64}
use mir.Val.{SFits}
use mir.ValLaws.{to_z-of_z}
use Rattle.amiqsovik.specs.ResultLaws.{standing-stores}
use Rattle.amiqsovik.proofs.result.put_standing.Goals as goal

pub returns : goal.returns
returns c =
    let p = c.phase_numbers-number.ensures in
    let fits : SFits w64 c.args.standing.slack = search rules in
    standing-stores c.args.res.now c.args.standing c.requires c.put_u32.ensures c.put_u32-2.ensures
    (ap (λ (r : ℕ × ℕ × ℕ). r.0) p) c.put_u32-3.ensures
    (ap (λ (r : ℕ × ℕ × ℕ). r.1) p) c.put_u32-4.ensures
    (ap (λ (r : ℕ × ℕ × ℕ). r.2) p) c.put_u32-5.ensures
    (to_z-of_z w64 c.args.standing.slack fits) c.put_slack.ensures
