use Rattle.std.proofs.Common.{◌≡◌, ◌<◌, ℕ, Option, None, Some, IfSome, unwrap_or, subst, sym, arith, rules}
use Rattle.merge.specs.Tree.{NextBest}
use Rattle.merge.specs.SecondLaws.{won-put, second-put, second_none}
use Rattle.merge.proofs.Merge.put_second.Goals as goal

pub returns-then-self-j-clause-won : goal.returns-then-self-j-clause-won
returns-then-self-j-clause-won c = won-put c.requires.2 c.args.n

pub returns-then-self-j-clause-second : goal.returns-then-self-j-clause-second
returns-then-self-j-clause-second c = second_none c.requires.2

pub returns-clause-won : goal.returns-clause-won
returns-clause-won c = won-put c.requires.2 c.unwrap_or-second.result

-- where none is found, n stands for it
found : (P : ℕ → Type 0) (r : Option ℕ) (n v : ℕ) → IfSome r P → v ≡ unwrap_or r n → v < n → P v
found P None n v h e l = absurd (omega (arith, e, l))
found P (Some p) n v h e l = subst P (sym e) h

pub returns-clause-second : goal.returns-clause-second
returns-clause-second c =
    let s = c.args.self.now in
    second-put c.requires.2 c.unwrap_or-second.result c.args.j c.if-self-j.false
    (found (NextBest s.keys s.tails c.args.n c.args.j) c.second_best.result c.args.n c.unwrap_or-second.result
    c.second_best.ensures (search rules))
