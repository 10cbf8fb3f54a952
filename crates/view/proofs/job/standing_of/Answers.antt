use Rattle.std.proofs.Common.{List, ap, ap₂, add-one, arith, rules, suc, ℕ, ◌*◌, ◌+◌, ◌^◌, ◌<◌, ◌∙◌, ◌≡◌, ◌≤◌}
use native.Mathlib.Nat.{mul-le-mul}
use lib.IntN.{sub_ℕ}
use mir.Syntax.{w64}
use mir.ValLaws.{to_z-of_z}
use Rattle.address.specs.Limits.{max_blocks}
use Rattle.image.specs.declared.Meta.{Meta}
use Rattle.model.specs.Held.{slack}
use Rattle.model.specs.Calls.{standing}
use Rattle.view.specs.Reads.{Reads}
use Rattle.view.specs.ReadsLaws.{reads_known, reads-laid, reads-max, reads-count, reads-fill, reads-low}
use Rattle.view.proofs.Slack.{sub_is, sub-fits}
use Rattle.view.proofs.job.standing_of.Goals as goal

product : {m : Meta} {s : List ℕ} → Reads s m → m.fill * (m.max + 1) ≤ 40 * max_blocks
product {m} r =
    let f : m.fill ≤ 40 = omega (arith, reads-fill r, (reads-laid r).fill_high) in
    let b : m.max + 1 ≤ max_blocks = omega (arith, reads-low r) in
    mul-le-mul f b

pub overflow_add-buckets : goal.overflow_add-buckets
overflow_add-buckets c = omega (arith, reads-low c.requires)

pub overflow_mul-wide : goal.overflow_mul-wide
overflow_mul-wide c = omega (arith, product c.requires)

pub read_job-requires : goal.read_job-requires
read_job-requires c = reads_known c.requires

pub overflow_cast-result : goal.overflow_cast-result
overflow_cast-result c = record { sfits = omega (arith, product c.requires) }

pub overflow_sub-result : goal.overflow_sub-result
overflow_sub-result c =
    let n : c.args.m.count < 2 ^ 32 = search rules in
    sub-fits (c.args.m.fill * (c.args.m.max + 1)) c.args.m.count (omega (arith, product c.requires)) (omega arith)

pub returns : goal.returns
unfolding standing slack
returns c =
    let m = c.args.m in
    let n : m.count < 2 ^ 32 = search rules in
    let b : m.max + 1 ≡ suc _ = add-one m.max ∙ ap suc (reads-max c.requires) in
    let z =
    to_z-of_z w64 _ (sub-fits (m.fill * (m.max + 1)) m.count (omega (arith, product c.requires)) (omega arith))
    ∙ sub_is (m.fill * (m.max + 1)) m.count (omega (arith, product c.requires)) (omega arith)
    ∙ ap₂ sub_ℕ (ap₂ ◌*◌ (reads-fill c.requires) b) (reads-count c.requires) in
    λ i. record {
      count = reads-count c.requires i;
      buckets = b i;
      phase = c.read_job.ensures i;
      slack = z i;
    }
