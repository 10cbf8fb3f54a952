use Rattle.std.proofs.Common.{◌≡◌, ℕ, Bool, true, false, ◌&&◌, ◌||◌, eqb, ltb, leb, get_or, refl, ap, ◌∙◌, arith, le-ltb, eq-eqb, ne_eqb}
use Rattle.std.proofs.Math.Decide.{ℕ_discrete}
use Rattle.merge.specs.Tree.{no_later, ahead}
use Rattle.merge.proofs.Merge.is_ahead.Goals as goal

-- all three tests are made, so that there is no branch
flat : (k m l o : ℕ) → ltb k l || (eqb k l && leb m o) ≡ no_later k m l o
flat k m l o = go (ℕ_discrete k l)
  where
    or-none : (b : Bool) → b || false ≡ b
    or-none true = refl
    or-none false = refl

    go : Dec (k ≡ l) → ltb k l || (eqb k l && leb m o) ≡ no_later k m l o
    go (yes e) = rw (le-ltb k l (omega arith), eq-eqb k l e)
    go (no n) = rw (ne_eqb k l n) (or-none (ltb k l))

pub returns : goal.returns
unfolding ahead
returns c =
    let a = c.args in
    let s = c.args.self.now in
    flat a.key (get_or s.tails a.a 0) (get_or s.keys a.b 0) (get_or s.tails a.b 0)
    ∙ ap (λ (k : ℕ). no_later k (get_or s.tails a.a 0) (get_or s.keys a.b 0) (get_or s.tails a.b 0)) c.requires.2
