-- Pairs by two numbers, their keys and their offsets: the same pair, and the order of pairs.
use Rattle.std.specs.Prelude.{◌≡◌, refl, ◌≢◌, Bool, true, false, cond, ◌&&◌, ℕ, ◌<◌, eqb, ltb}
use Rattle.std.proofs.Common.{sym, ap, ◌∙◌, arith, lt-ltb, le-ltb, eq-eqb, ne_eqb}
use Rattle.std.proofs.lemmas.Bool.{eqb-false}
use Rattle.page.specs.declared.Pair.{Pair}
use Rattle.page.specs.Pair.{PairFits, same, before, bad_pair}
use Rattle.page.specs.PairLaws.{Order, less, equal, more, order, lex-equal, lex-apart, same-yes, same-eq}
use Rattle.model.specs.TallyLaws.{or_right}
use Rattle.merge.specs.Heads.{no_key, pair_key, pair_from}

pub key_below_lem : (p : Pair) → PairFits p → bad_pair p ≡ false → pair_key p < no_key
key_below_lem p f h =
    let ne = eqb-false p.block 4294967295 (or_right (eqb p.offset 0) (eqb p.block 4294967295) h) in
    let b : p.block < 4294967295 = go (order p.block 4294967295) ne in
    omega (arith, f.hash, b)
  where
    go : Order p.block 4294967295 → (p.block ≡ 4294967295 → ⊥) → p.block < 4294967295
    go (less l) ne = l
    go (equal e) ne = absurd (ne e)
    go (more l) ne = omega (arith, l, f.block)

module _ (p q : Pair) (fp : PairFits p) (fq : PairFits q) where
  key-hash : pair_key p ≡ pair_key q → p.hash ≡ q.hash
  key-hash e = omega (arith, e, fp.block, fq.block)

  key-block : pair_key p ≡ pair_key q → p.block ≡ q.block
  key-block e = omega (arith, e, key-hash e)

  pub same_key : eqb (pair_key p) (pair_key q) && eqb p.offset q.offset ≡ same q p
  same_key = go (order (pair_key p) (pair_key q)) (order p.offset q.offset)
    where
      apart : p ≢ q → same q p ≡ false
      apart ne = at (same q p) refl
        where
          at : (b : Bool) → same q p ≡ b → b ≡ false
          at false h = refl
          at true h = absurd (ne (sym (same-eq q p h)))

      other : pair_key p ≢ pair_key q → eqb (pair_key p) (pair_key q) && eqb p.offset q.offset ≡ same q p
      other ne = rw (ne_eqb (pair_key p) (pair_key q) ne) (sym (apart (λ e. ne (ap (λ (r : Pair). pair_key r) e))))

      far : p.offset ≢ q.offset → pair_key p ≡ pair_key q
          → eqb (pair_key p) (pair_key q) && eqb p.offset q.offset ≡ same q p
      far ne e =
          rw (eq-eqb (pair_key p) (pair_key q) e, ne_eqb p.offset q.offset ne)
          (sym (apart (λ h. ne (ap (λ (r : Pair). r.offset) h))))

      go : Order (pair_key p) (pair_key q) → Order p.offset q.offset
          → eqb (pair_key p) (pair_key q) && eqb p.offset q.offset ≡ same q p
      go (less l) d = other (omega arith)
      go (more l) d = other (omega arith)
      go (equal e) (less l) = far (omega arith) e
      go (equal e) (more l) = far (omega arith) e
      go (equal e) (equal o) =
          rw (eq-eqb (pair_key p) (pair_key q) e, eq-eqb p.offset q.offset o)
          (sym (same-yes q p
          (λ i. record { hash = sym (key-hash e) i; block = sym (key-block e) i; offset = sym o i })))

  pub before-key : cond (eqb (pair_key p) (pair_key q)) (ltb p.offset q.offset) (ltb (pair_key p) (pair_key q))
      ≡ before p q
  before-key = go (order (pair_key p) (pair_key q))
    where
      lower : pair_key p < pair_key q → before p q ≡ true
      lower l = at (order p.hash q.hash)
        where
          at : Order p.hash q.hash → before p q ≡ true
          at (less h) = lex-apart p.hash q.hash _ (omega arith) ∙ lt-ltb p.hash q.hash h
          at (more h) = absurd (omega (arith, h, l, fp.block, fq.block))
          at (equal e) =
              lex-equal p.hash q.hash _ e
              ∙ lex-apart p.block q.block _ (λ r. omega (arith, r, e, l))
              ∙ lt-ltb p.block q.block (omega (arith, e, l))

      upper : pair_key q < pair_key p → before p q ≡ false
      upper l = at (order p.hash q.hash)
        where
          at : Order p.hash q.hash → before p q ≡ false
          at (more h) = lex-apart p.hash q.hash _ (omega arith) ∙ le-ltb p.hash q.hash (omega arith)
          at (less h) = absurd (omega (arith, h, l, fp.block, fq.block))
          at (equal e) =
              lex-equal p.hash q.hash _ e
              ∙ lex-apart p.block q.block _ (λ r. omega (arith, r, e, l))
              ∙ le-ltb p.block q.block (omega (arith, e, l))

      go : Order (pair_key p) (pair_key q)
          → cond (eqb (pair_key p) (pair_key q)) (ltb p.offset q.offset) (ltb (pair_key p) (pair_key q)) ≡ before p q
      go (less l) =
          rw (ne_eqb (pair_key p) (pair_key q) (omega arith)) (lt-ltb (pair_key p) (pair_key q) l ∙ sym (lower l))
      go (more l) =
          rw (ne_eqb (pair_key p) (pair_key q) (omega arith))
          (le-ltb (pair_key p) (pair_key q) (omega arith) ∙ sym (upper l))
      go (equal e) =
          rw (eq-eqb (pair_key p) (pair_key q) e)
          (sym (lex-equal p.hash q.hash _ (key-hash e) ∙ lex-equal p.block q.block _ (key-block e)))

-- the pair with two numbers has them
pub from_key : (key offset : ℕ) → pair_key (pair_from key offset) ≡ key
from_key key offset = omega arith

pub from-fits : (key offset : ℕ) → key < no_key → offset < 65536 → PairFits (pair_from key offset)
from-fits key offset h l = record { hash = omega (arith, h); block = omega arith; offset = omega (arith, l) }
