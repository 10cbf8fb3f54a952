use Rattle.std.proofs.Common.{arith, le-ltb, lt-ltb, ltb, ℕ, ◌+◌, ◌-◌, ◌/◌, ◌<◌, ◌^◌, ◌≡◌, ◌≤◌}
use native.Mathlib.Decide.{dec_lt}
use Rattle.lists.specs.Lists.{b2n}
use Rattle.page.proofs.order.one_if_below.Goals as goal

quotient : (a b : ℕ) → a < 2 ^ 48 → b ≤ 2 ^ 48
    → (b + 281474976710655 - a) / 281474976710656 ≡ b2n (ltb a b)
quotient a b ha hb = go (dec_lt a b)
  where
    go : Dec (a < b) → (b + 281474976710655 - a) / 281474976710656 ≡ b2n (ltb a b)
    go (yes l) = rw (lt-ltb a b l) (omega arith)
    go (no l) = rw (le-ltb a b (omega arith)) (omega arith)

pub returns : goal.returns
returns c = quotient c.args.a c.args.b c.requires.0 c.requires.1
