use Rattle.std.proofs.Common.{arith, shl_exact, sym, ℕ, ◌%◌, ◌*◌, ◌+◌, ◌-◌, ◌/◌, ◌^◌, ◌∙◌, ◌≡◌, ◌≤◌}
use Rattle.address.specs.Address.{buckets_at}
use Rattle.address.specs.PhaseLaws.{buckets-low, buckets-phase}
use Rattle.address.proofs.Leading.{shift_one}
use Rattle.address.proofs.buckets_at.Goals as goal

pub returns-then-i-lt10 : goal.returns-then-i-lt10
returns-then-i-lt10 c =
    let i = c.args.i in
    shift_one i (omega arith) ∙ sym (buckets-low i c.if-i-lt10.true)

-- the number of quarters has at most 4 digits, and the shift leaves room for them
shifted : (i : ℕ) → 10 ≤ i → i ≤ 31
    → (5 + (i - 10) % 4) * 2 ^ (7 + (i - 10) / 4) % 4294967296 ≡ buckets_at i
shifted i h l =
    shl_exact 4 (7 + (i - 10) / 4) 32 (omega arith) (omega arith)
    ∙ sym (buckets-phase i ((i - 10) / 4) ((i - 10) % 4) (omega arith) (omega arith))

pub returns : goal.returns
returns c = shifted c.args.i (omega arith) (omega arith)
