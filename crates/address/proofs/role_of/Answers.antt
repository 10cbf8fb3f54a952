use Rattle.std.proofs.Common.{ap, arith, get_or, suc, sym, ℕ, ◌+◌, ◌-◌, ◌∙◌, ◌≡◌, ◌≤◌}
use Rattle.address.specs.Address.{buckets_at}
use Rattle.address.specs.Role.{role_of, bit_page}
use Rattle.address.specs.BlockRole.{role_case}
use Rattle.address.proofs.Role.{sum_below, role-unmade, bucket-in, bit_in}
use Rattle.address.proofs.role_of.Goals as goal

after : (i : ℕ) → 1 ≤ i → i ≡ suc (i - 1)
after i h = omega arith

pub returns-then-block-eq0 : goal.returns-then-block-eq0
unfolding role_of
returns-then-block-eq0 c = sym (ap (λ (k : ℕ). role_case (role_of c.args.spares c.args.s k)) c.if-block-eq0.true)

pub overflow_add-buckets : goal.overflow_add-buckets
overflow_add-buckets c =
    let i = c.loop-point.point in
    omega (
      arith,
      c.buckets_at-buckets.ensures,
      sum_below c.args.spares c.args.s _ c.requires.1 i (i - 1) (omega arith) (omega arith),
    )

pub returns-then-place-buckets : goal.returns-then-place-buckets
returns-then-place-buckets c =
    let l = c.loop-point in
    sym (ap role_case
    (bucket-in c.args.spares c.args.s _ c.requires.1 (l.point - 1) c.args.block (omega arith) (omega arith)
    l.invariant
    (omega (arith, c.if-place-buckets.true, c.buckets_at-buckets.ensures, ap buckets_at (after l.point l.auto.point)))))

pub overflow_add-buckets-in-loop-point : goal.overflow_add-buckets-in-loop-point
overflow_add-buckets-in-loop-point c =
    let i = c.loop-point.point in
    omega (
      arith,
      c.buckets_at-buckets.ensures,
      sum_below c.args.spares c.args.s _ c.requires.1 i i (omega arith) (omega arith),
    )

pub returns-then-place-buckets-2 : goal.returns-then-place-buckets-2
returns-then-place-buckets-2 c =
    let l = c.loop-point in
    let e : l.point ≡ suc (l.point - 1) = after l.point c.loop-point.auto.point in
    let b : c.buckets_at-buckets.result ≡ buckets_at (suc (l.point - 1)) =
    c.buckets_at-buckets.ensures ∙ ap buckets_at e in
    ap (λ (x : ℕ). role_case (bit_page (c.args.block - 1 - x))) b
    ∙ sym (ap role_case
    (bit_in c.args.spares c.args.s _ c.requires.1 (l.point - 1) c.args.block (omega arith) (omega arith)
    (omega (arith, c.if-place-buckets.false))
    (omega (arith, c.if-place-buckets-2.true, ap (λ (x : ℕ). get_or c.args.spares x 0) e))))

pub loop-point-preserved : goal.loop-point-preserved
loop-point-preserved c =
    let i = c.loop-point.point in
    let e : i + 1 - 1 ≡ i = omega arith in
    λ h. rw e (omega (arith, c.if-place-buckets-2.false, c.buckets_at-buckets.ensures))

pub returns-else-place-buckets-2 : goal.returns-else-place-buckets-2
returns-else-place-buckets-2 c =
    let e : c.loop-point.point ≡ c.args.s = omega arith in
    sym (ap role_case
    (role-unmade c.args.spares c.args.s _ c.requires.1 c.args.block (omega arith)
    (rw (← e) (omega (arith, c.if-place-buckets-2.false, c.buckets_at-buckets.ensures)))))
