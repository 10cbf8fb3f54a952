use Rattle.std.proofs.Common.{◌≡◌, ◌<◌, true, List, ℕ, get_or, arith, ne_eqb, lt-ltb}
use Rattle.merge.specs.Tree.{ahead}
use Rattle.merge.proofs.Merge.stays_first.Goals as goal

-- by the keys alone
ahead-key : (keys tails : List ℕ) (a b : ℕ) → get_or keys a 0 < get_or keys b 0 → ahead keys tails a b ≡ true
unfolding ahead
ahead-key keys tails a b h =
    rw (ne_eqb (get_or keys a 0) (get_or keys b 0) (λ e. omega (arith, e)), lt-ltb (get_or keys a 0) (get_or keys b 0) h)

pub returns-then-key-self : goal.returns-then-key-self
returns-then-key-self c e =
    let s = c.args.self.now in
    (omega (arith, c.if-n-second.false), ahead-key s.keys s.tails c.args.j _ c.if-key-self.true)
