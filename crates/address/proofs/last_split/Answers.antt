use Rattle.std.proofs.Common.{ap, arith, refl, suc, sym, zero, ℕ, ◌+◌, ◌-◌, ◌∙◌, ◌≡◌, ◌≤◌}
use Rattle.address.specs.Address.{split_from, last_split}
use Rattle.address.specs.LastSplitLaws.{last_none, last-far, last-own}
use Rattle.address.proofs.last_split.Goals as goal
use Rattle.address.proofs.last_split.Goals.{then-max-bucket-via-else-max-bucket+then-max-eq0, then-max-bucket-via-then-max-bucket}

at_zero : (max b : ℕ) → max ≡ 0 → last_split max b ≡ 1
unfolding last_split
at_zero zero b e = refl
at_zero (suc m) b e = absurd (omega arith)

pub returns-then-max-bucket : goal.returns-then-max-bucket
returns-then-max-bucket c =
    let max = c.args.max in
    let b = c.args.bucket in
    elim c.then-max-bucket.branch [
      | then-max-bucket-via-then-max-bucket w ↦ sym (last_none max b w.if-max-bucket.true)
      | then-max-bucket-via-else-max-bucket+then-max-eq0 w ↦ sym (at_zero max b w.if-max-eq0.true)
    ]

pub overflow_sub-top : goal.overflow_sub-top
unfolding split_from
overflow_sub-top c = omega (arith, c.parent_of.ensures)

pub returns-then-bucket-top : goal.returns-then-bucket-top
returns-then-bucket-top c =
    let max = c.args.max in
    let b = c.args.bucket in
    let e : c.parent_of.result ≡ split_from (max - b) = c.parent_of.ensures in
    ap (λ (x : ℕ). b + (max - b - x)) e ∙ sym (last-far max b (omega arith) (omega (arith, c.if-bucket-top.true)))

pub returns-else-bucket-top : goal.returns-else-bucket-top
returns-else-bucket-top c =
    let max = c.args.max in
    let b = c.args.bucket in
    let e : c.parent_of.result ≡ split_from (max - b) = c.parent_of.ensures in
    let p : 1 ≤ max = omega arith in
    sym (last-own max b (omega arith) p (omega (arith, c.if-bucket-top.false)))
