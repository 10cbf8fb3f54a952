-- The nodes of the winner tree, one above the other.
use Rattle.std.specs.Prelude.{◌≡◌, refl, ◌≢◌, ◌⊎◌, ℕ, zero, suc, ◌+◌, ◌*◌, ◌-◌, ◌/◌, ◌≤◌, ◌<◌}
use Rattle.std.proofs.Common.{sym, ap, ◌∙◌, inl, inr, ⊎_elim, arith}
use Rattle.std.proofs.Math.Decide.{ℕ_discrete}
use Rattle.merge.specs.Tree.{halves, Above}

pub halves-suc : (d k : ℕ) → halves (suc d) k ≡ halves d k / 2
halves-suc zero k = refl
halves-suc (suc d) k = halves-suc d (k / 2)

halves-zero : (d : ℕ) → halves d 0 ≡ 0
halves-zero zero = refl
halves-zero (suc d) = halves-zero d

pub halves-le : (d k : ℕ) → halves d k ≤ k
halves-le zero k = omega arith
halves-le (suc d) k = omega (arith, halves-le d (k / 2))

-- the node above one that stands above m does so too
pub above-up : (m c : ℕ) → Above m c → Above m (c / 2)
above-up m c (d, e) = (suc d, halves-suc d m ∙ ap (λ (v : ℕ). v / 2) e)

-- what stands above m and is not m stands above m / 2, or is it
pub above_half : (m c : ℕ) → c ≢ m → Above m c → Above (m / 2) c
above_half m c ne (zero, e) = absurd (ne (sym e))
above_half m c ne (suc d, e) = (d, e)

-- the nodes below m do not stand above it
pub not-above : (m c : ℕ) → m < c → Above m c → ⊥
not-above m c l (d, e) = omega (arith, halves-le d m)

pub above-none : (c : ℕ) → 1 ≤ c → Above 0 c → ⊥
above-none c l (d, e) = omega (arith, halves-zero d)

-- node 1 stands above every node: by induction over a bound m on it
pub above-one : (m k : ℕ) → k ≤ m → 1 ≤ k → Above k 1
above-one zero k b l = absurd (omega arith)
above-one (suc m) k b l = go (ℕ_discrete k 1) (λ h. above-one m (k / 2) (omega arith) (omega arith))
  where
    go : Dec (k ≡ 1) → (2 ≤ k → Above (k / 2) 1) → Above k 1
    go (yes e) f = (0, e)
    go (no ne) f = let a = f (omega arith) in (suc a.0, a.1)

-- what is below node k / 2, and is not it, is below node k or below its sibling
pub above-split : (m k : ℕ) → k / 2 < m → Above m (k / 2) → Above m k ⊎ Above m (4 * (k / 2) + 1 - k)
above-split m k l (zero, e) = absurd (omega arith)
above-split m k l (suc d, e) = go (ℕ_discrete (halves d m) k)
  where
    halved : halves d m / 2 ≡ k / 2
    halved = sym (halves-suc d m) ∙ e

    go : Dec (halves d m ≡ k) → Above m k ⊎ Above m (4 * (k / 2) + 1 - k)
    go (yes q) = inl (d, q)
    go (no q) = inr (d, omega (arith, q, halved))

-- of two nodes above m, one stands above the other
above-line : (d c m : ℕ) → Above (halves d m) (halves c m) ⊎ Above (halves c m) (halves d m)
above-line zero c m = inl (c, refl)
above-line (suc d) zero m = inr (suc d, refl)
above-line (suc d) (suc c) m = above-line d c (m / 2)

-- nothing is below a node and below its sibling
pub above_apart : (m k : ℕ) → 2 ≤ k → Above m k → Above m (4 * (k / 2) + 1 - k) → ⊥
above_apart m k l (d, e) (c, f) =
    ⊎_elim
    (λ a. apart k (4 * (k / 2) + 1 - k) (omega arith) (omega arith) (rw (e, f) at a))
    (λ a. apart (4 * (k / 2) + 1 - k) k (omega arith) (omega arith) (rw (e, f) at a))
    (above-line d c m)
  where
    apart : (a b : ℕ) → a / 2 < b → b ≢ a → Above a b → ⊥
    apart a b u ne h = not-above (a / 2) b u (above_half a b ne h)
