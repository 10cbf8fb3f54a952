-- Pairs: `same` is equality, and `before` is a strict order in which any two pairs are ordered or equal.
use Rattle.std.specs.Prelude.{◌≡◌, refl, Bool, true, false, ◌&&◌, ◌||◌, ℕ, ◌≤◌, ◌<◌, eqb, ltb}
use Rattle.std.proofs.Common.{sym, ◌∙◌, arith, lt-ltb, le-ltb, ltb-true, ltb-false}
use Rattle.std.proofs.Math.Decide.{dec_lt}
use Rattle.lists.specs.ListsLaws.{and_left, and_right, eqb_yes, eqb_no, eqb-eq}
use Rattle.page.specs.declared.Pair.{Pair}
use Rattle.page.specs.Pair.{same, before}

-- a test is not both
pub no_way : {A : Type 0} {b : Bool} → b ≡ true → b ≡ false → A
no_way h e = let z : ◌≡◌ {A = ℕ} 0 1 = cc in absurd (omega arith)

-- ---- same

pub same_refl : (p : Pair) → same p p ≡ true
same_refl p =
    rw (eqb_yes p.hash p.hash refl, eqb_yes p.block p.block refl, eqb_yes p.offset p.offset refl)

pub same-eq : (p q : Pair) → same p q ≡ true → p ≡ q
same-eq p q h =
    let h₁ = and_right (eqb p.hash q.hash) _ h in
    let a = eqb-eq p.hash q.hash (and_left (eqb p.hash q.hash) _ h) in
    let b = eqb-eq p.block q.block (and_left (eqb p.block q.block) _ h₁) in
    let c = eqb-eq p.offset q.offset (and_right (eqb p.block q.block) _ h₁) in
    λ i. record { hash = a i; block = b i; offset = c i }

pub same-yes : (p q : Pair) → p ≡ q → same p q ≡ true
same-yes p q e = rw e (same_refl q)

pub same-sym : (p q : Pair) → same p q ≡ same q p
same-sym p q = go (same p q) (same q p) refl refl
  where
    go : (a b : Bool) → same p q ≡ a → same q p ≡ b → a ≡ b
    go true b e f = sym (same-yes q p (sym (same-eq p q e))) ∙ f
    go false true e f = no_way (same-yes p q (sym (same-eq q p f))) e
    go false false e f = refl

-- ---- a number and then the rest: `before` is this twice

abbrev lex : ℕ → ℕ → Bool → Bool
lex a b r = ltb a b || (eqb a b && r)

-- one number is below, is, or is above another
pub data Order (a b : ℕ) : Type 0 where
  less : a < b → Order a b
  equal : a ≡ b → Order a b
  more : b < a → Order a b

pub order : (a b : ℕ) → Order a b
order a b = go (dec_lt a b) (dec_lt b a)
  where
    go : Dec (a < b) → Dec (b < a) → Order a b
    go (yes l) d = less l
    go (no l) (yes g) = more g
    go (no l) (no g) = equal (omega arith)

pub lex-equal : (a b : ℕ) (r : Bool) → a ≡ b → lex a b r ≡ r
lex-equal a b r e = rw (le-ltb a b (omega arith), eqb_yes a b e)

pub lex-apart : (a b : ℕ) (r : Bool) → (a ≡ b → ⊥) → lex a b r ≡ ltb a b
lex-apart a b r ne = rw (eqb_no a b ne) (go (ltb a b))
  where
    go : (c : Bool) → c || false ≡ c
    go true = refl
    go false = refl

lex-less : (a b : ℕ) (r : Bool) → a < b → lex a b r ≡ true
lex-less a b r l = rw (lt-ltb a b l)

lex-more : (a b : ℕ) (r : Bool) → b < a → lex a b r ≡ false
lex-more a b r l = lex-apart a b r (omega arith) ∙ le-ltb a b (omega arith)

lex-trans : (a b c : ℕ) (r s t : Bool) → (r ≡ true → s ≡ true → t ≡ true)
    → lex a b r ≡ true → lex b c s ≡ true → lex a c t ≡ true
lex-trans a b c r s t f h k = go (order a b) (order b c)
  where
    go : Order a b → Order b c → lex a c t ≡ true
    go (more l) d = no_way h (lex-more a b r l)
    go (less l) (more g) = no_way k (lex-more b c s g)
    go (equal l) (more g) = no_way k (lex-more b c s g)
    go (less l) (less g) = lex-less a c t (omega arith)
    go (less l) (equal g) = lex-less a c t (omega arith)
    go (equal l) (less g) = lex-less a c t (omega arith)
    go (equal l) (equal g) = lex-equal a c t (l ∙ g) ∙ f (sym (lex-equal a b r l) ∙ h) (sym (lex-equal b c s g) ∙ k)

lex-conn : (a b : ℕ) (r s : Bool) → lex a b r ≡ false → lex b a s ≡ false → (a ≡ b) × (r ≡ false) × (s ≡ false)
lex-conn a b r s h k = go (order a b)
  where
    go : Order a b → (a ≡ b) × (r ≡ false) × (s ≡ false)
    go (less l) = no_way (lex-less a b r l) h
    go (more l) = no_way (lex-less b a s l) k
    go (equal l) = (l, sym (lex-equal a b r l) ∙ h, sym (lex-equal b a s (sym l)) ∙ k)

-- ---- before

pub before-trans : (p q r : Pair) → before p q ≡ true → before q r ≡ true → before p r ≡ true
before-trans p q r =
    lex-trans p.hash q.hash r.hash _ _ _
    (lex-trans p.block q.block r.block _ _ _
    (λ h k.
    lt-ltb p.offset r.offset
    (omega (arith, ltb-true p.offset q.offset h, ltb-true q.offset r.offset k))))

pub before-irrefl : (p : Pair) → before p p ≡ false
before-irrefl p =
    lex-equal p.hash p.hash _ refl
    ∙ lex-equal p.block p.block _ refl
    ∙ le-ltb p.offset p.offset (omega arith)

-- two pairs of which neither stands before the other are one
pub before-conn : (p q : Pair) → before p q ≡ false → before q p ≡ false → p ≡ q
before-conn p q h k =
    let a = lex-conn p.hash q.hash _ _ h k in
    let b = lex-conn p.block q.block _ _ a.1 a.2 in
    let c : p.offset ≡ q.offset =
    omega (arith, ltb-false p.offset q.offset b.1, ltb-false q.offset p.offset b.2) in
    λ i. record { hash = a.0 i; block = b.0 i; offset = c i }

pub before-asym : (p q : Pair) → before p q ≡ true → before q p ≡ false
before-asym p q h = go (before q p) refl
  where
    go : (b : Bool) → before q p ≡ b → b ≡ false
    go false e = refl
    go true e = no_way (before-trans p q p h e) (before-irrefl p)

-- one of two pairs stands before the other only if they are not the same
pub before_same : (p q : Pair) → before p q ≡ true → same p q ≡ false
before_same p q h = go (same p q) refl
  where
    go : (b : Bool) → same p q ≡ b → b ≡ false
    go false e = refl
    go true e = no_way (rw (same-eq p q e) at h) (before-irrefl q)

-- of two pairs that are not the same one stands before the other
pub before-other : (p q : Pair) → same p q ≡ false → before q p ≡ false → before p q ≡ true
before-other p q n h = go (before p q) refl
  where
    go : (b : Bool) → before p q ≡ b → b ≡ true
    go true e = refl
    go false e = no_way (same-yes p q (before-conn p q e h)) n

-- where q does not come before p, p comes before all that q comes before
pub before-le : (p q r : Pair) → before q p ≡ false → before q r ≡ true → before p r ≡ true
before-le p q r h k = go (before p q) refl
  where
    go : (b : Bool) → before p q ≡ b → before p r ≡ true
    go true e = before-trans p q r e k
    go false e = rw (before-conn p q e h) k

-- the pairs before all that have the hash code h are those with a smaller one
pub before-hash : (p : Pair) (h : ℕ) → before p (record { hash = h; block = 0; offset = 0 }) ≡ ltb p.hash h
before-hash p h =
    rw (le-ltb p.block 0 (omega arith), le-ltb p.offset 0 (omega arith))
    (go (ltb p.hash h) (eqb p.hash h) (eqb p.block 0))
  where
    go : (a b c : Bool) → a || (b && (false || (c && false))) ≡ a
    go true b c = refl
    go false true true = refl
    go false true false = refl
    go false false c = refl

-- a pair before another has no greater hash code
pub before-hash-le : (p q : Pair) → before p q ≡ true → p.hash ≤ q.hash
before-hash-le p q h = go (order p.hash q.hash)
  where
    go : Order p.hash q.hash → p.hash ≤ q.hash
    go (less l) = omega arith
    go (equal l) = omega arith
    go (more l) = no_way h (lex-more p.hash q.hash _ l)
