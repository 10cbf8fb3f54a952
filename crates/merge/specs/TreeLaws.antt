-- The winner tree's order, and one node put right.
use Rattle.std.specs.Prelude.{◌≡◌, ◌≢◌, Bool, List, ℕ, ◌+◌, ◌*◌, ◌-◌, ◌/◌, ◌%◌, ◌≤◌, ◌<◌, ltb, leb, get_or, set}
use Rattle.std.proofs.Math.Path.{refl}
use Rattle.std.proofs.Common.{sym, ap₂, subst, ◌∙◌, arith, length-set, get_or-set_same, get_or-set_other}
use Rattle.std.proofs.Math.Bool.{true, false, cond}
use Rattle.std.proofs.Math.Decide.{ℕ_discrete}
use borrow.Author.Tests.{ltb-true, ltb-false, leb-true, leb-false, eqb-true, eqb-false, lt-ltb, le-leb}
use Rattle.std.proofs.Math.Dec.{eqb}
use Rattle.lists.specs.TestLaws.{cond-put}
use Rattle.merge.specs.Tree.{max_pages, Above, ahead, winner, Tops, Settled}
use Rattle.merge.specs.NodeLaws.{above-up}

-- ---- the order of the heads: by their keys, and of equal keys by their tails

module _ (keys tails : List ℕ) where
  abbrev key : ℕ → ℕ
  key a = get_or keys a 0

  abbrev tail : ℕ → ℕ
  tail a = get_or tails a 0

  pub ahead-put : (a b : ℕ) → get_or keys a 0 ≤ get_or keys b 0
      → (get_or keys a 0 ≡ get_or keys b 0 → get_or tails a 0 ≤ get_or tails b 0) → ahead keys tails a b ≡ true
  unfolding ahead
  ahead-put a b l f =
      cond-put (eqb (key a) (key b)) (leb (tail a) (tail b)) (ltb (key a) (key b))
      (λ e. le-leb (tail a) (tail b) (f (eqb-true (key a) (key b) e)))
      (λ e. lt-ltb (key a) (key b) (omega (arith, eqb-false (key a) (key b) e)))

  pub ahead-yes : (a b : ℕ) → ahead keys tails a b ≡ true
      → (get_or keys a 0 ≤ get_or keys b 0) × (get_or keys a 0 ≡ get_or keys b 0 → get_or tails a 0 ≤ get_or tails b 0)
  unfolding ahead
  ahead-yes a b = go (eqb (key a) (key b)) refl
    where
      go : (t : Bool) → eqb (key a) (key b) ≡ t → cond t (leb (tail a) (tail b)) (ltb (key a) (key b)) ≡ true
          → (key a ≤ key b) × (key a ≡ key b → tail a ≤ tail b)
      go true e h = (omega (arith, eqb-true (key a) (key b) e), λ q. leb-true (tail a) (tail b) h)
      go false e h = (omega (arith, ltb-true (key a) (key b) h), λ q. absurd (eqb-false (key a) (key b) e q))

  pub ahead-refl : (a : ℕ) → ahead keys tails a a ≡ true
  ahead-refl a = ahead-put a a (omega arith) (λ e. omega arith)

  pub ahead-other : (a b : ℕ) → ahead keys tails a b ≡ false → ahead keys tails b a ≡ true
  unfolding ahead
  ahead-other a b = go (eqb (key a) (key b)) refl
    where
      go : (t : Bool) → eqb (key a) (key b) ≡ t → cond t (leb (tail a) (tail b)) (ltb (key a) (key b)) ≡ false
          → ahead keys tails b a ≡ true
      go true e h =
          ahead-put b a (omega (arith, eqb-true (key a) (key b) e)) (λ q. omega (arith, leb-false (tail a) (tail b) h))
      go false e h =
          ahead-put b a (ltb-false (key a) (key b) h) (λ q. absurd (eqb-false (key a) (key b) e (sym q)))

  pub ahead-trans : (a b c : ℕ) → ahead keys tails a b ≡ true → ahead keys tails b c ≡ true
      → ahead keys tails a c ≡ true
  ahead-trans a b c h k =
      let p = ahead-yes a b h in
      let q = ahead-yes b c k in
      ahead-put a c (omega arith) (λ e. omega (arith, p.1 (omega arith), q.1 (omega arith)))

-- ---- the page that wins at a node

-- page w is one of the two at the nodes below node k, and is ahead of both
pub data Picked (keys tails tree : List ℕ) (k : ℕ) : ℕ → Type 0 where
  lefts : ahead keys tails (get_or tree (2 * k) 0) (get_or tree (2 * k + 1) 0) ≡ true
      → Picked keys tails tree k (get_or tree (2 * k) 0)
  rights : ahead keys tails (get_or tree (2 * k + 1) 0) (get_or tree (2 * k) 0) ≡ true
      → Picked keys tails tree k (get_or tree (2 * k + 1) 0)

module _ (keys tails tree : List ℕ) (k : ℕ) where
  abbrev left : ℕ
  left = get_or tree (2 * k) 0

  abbrev right : ℕ
  right = get_or tree (2 * k + 1) 0

  picked-one : (P : ℕ → Type 0) → P left → P right → {w : ℕ} → Picked keys tails tree k w → P w
  picked-one P l r (lefts h) = l
  picked-one P l r (rights h) = r

  picked_first : {w : ℕ} → Picked keys tails tree k w → ahead keys tails w left ≡ true
  picked_first (lefts h) = ahead-refl keys tails left
  picked_first (rights h) = h

  picked-second : {w : ℕ} → Picked keys tails tree k w → ahead keys tails w right ≡ true
  picked-second (lefts h) = h
  picked-second (rights h) = ahead-refl keys tails right

  pub winner-picked : Picked keys tails tree k (winner keys tails tree k)
  unfolding winner
  winner-picked = go (ahead keys tails left right) refl
    where
      go : (t : Bool) → ahead keys tails left right ≡ t → Picked keys tails tree k (cond t left right)
      go true e = lefts e
      go false e = rights (ahead-other keys tails left right e)

-- of the pages at node c and at its sibling, both below node c / 2
module _ (keys tails tree : List ℕ) (c : ℕ) where
  abbrev up : ℕ
  up = c / 2

  abbrev side : ℕ
  side = 4 * (c / 2) + 1 - c

  -- where c is the left one
  module _ (even : c % 2 ≡ 0) where
    left_is : 2 * up ≡ c
    left_is = omega (arith, even)

    right_is : 2 * up + 1 ≡ side
    right_is = omega (arith, even)

    even-test : (t : Bool) → ahead keys tails (get_or tree c 0) (get_or tree side 0) ≡ t
        → ahead keys tails (get_or tree (2 * up) 0) (get_or tree (2 * up + 1) 0) ≡ t
    even-test t h = ap₂ (λ (x y : ℕ). ahead keys tails (get_or tree x 0) (get_or tree y 0)) left_is right_is ∙ h

  module _ (odd : c % 2 ≢ 0) where
    left-side : 2 * up ≡ side
    left-side = omega (arith, odd)

    right-here : 2 * up + 1 ≡ c
    right-here = omega (arith, odd)

    odd-test : (t : Bool) → ahead keys tails (get_or tree c 0) (get_or tree side 0) ≡ t
        → ahead keys tails (get_or tree (2 * up + 1) 0) (get_or tree (2 * up) 0) ≡ t
    odd-test t h = ap₂ (λ (x y : ℕ). ahead keys tails (get_or tree x 0) (get_or tree y 0)) right-here left-side ∙ h

  abbrev PickedAt : ℕ → Type 0
  PickedAt x = Picked keys tails tree up (get_or tree x 0)

  pub here-picked : ahead keys tails (get_or tree c 0) (get_or tree (4 * (c / 2) + 1 - c) 0) ≡ true
      → Picked keys tails tree (c / 2) (get_or tree c 0)
  here-picked h = go (ℕ_discrete (c % 2) 0)
    where
      go : Dec (c % 2 ≡ 0) → PickedAt c
      go (yes e) = subst PickedAt (left_is e) (lefts (even-test e true h))
      go (no e) = subst PickedAt (right-here e) (rights (odd-test e true h))

  pub side-picked : ahead keys tails (get_or tree c 0) (get_or tree (4 * (c / 2) + 1 - c) 0) ≡ false
      → Picked keys tails tree (c / 2) (get_or tree (4 * (c / 2) + 1 - c) 0)
  side-picked h = go (ℕ_discrete (c % 2) 0)
    where
      go : Dec (c % 2 ≡ 0) → PickedAt side
      go (yes e) =
          subst PickedAt (right_is e) (rights (ahead-other keys tails _ _ (even-test e false h)))
      go (no e) =
          subst PickedAt (left-side e) (lefts (ahead-other keys tails _ _ (odd-test e false h)))

-- ---- node k put right, where both nodes below it are right and the one above it is open

module _ (keys tails : List ℕ) (n : ℕ) (tree : List ℕ) where
  -- an open node that turns out right need not stay open
  pub settled-more : (Open Open' : ℕ → Type 0) → ((c : ℕ) → 1 ≤ c → (Open' c → ⊥) → Open c → ⊥)
      → Settled keys tails n tree Open → Settled keys tails n tree Open'
  settled-more Open Open' f s =
      record {
        size = s.size;
        leaf = s.leaf;
        few = λ c l u o. s.few c l u (f c l o);
        below = λ c l u o. s.below c l u (f c l o);
        tops = λ c l u o. s.tops c l u (f c l o);
      }

  module _ (Open Open' : ℕ → Type 0) (k : ℕ) (s : Settled keys tails n tree Open) (most : n ≤ max_pages) (one : 1 ≤ k)
      (inner : k < n) (first : Open (2 * k) → ⊥) (second : Open (2 * k + 1) → ⊥)
      (kept : (c : ℕ) → (Open' c → ⊥) → c ≢ k → Open c → ⊥)
      (up : (c : ℕ) → 1 ≤ c → (Open' c → ⊥) → c ≢ k / 2) (w : ℕ) (picked : Picked keys tails tree k w) where
    abbrev next : List ℕ
    next = set tree k w

    at-k : get_or next k 0 ≡ w
    at-k = get_or-set_same tree k w 0 (omega (arith, s.size))

    other : (c : ℕ) → c ≢ k → get_or next c 0 ≡ get_or tree c 0
    other c ne = get_or-set_other tree k c w 0 ne

    -- what holds of both pages below k, and of the page at each other node, holds after the step
    each : (P : ℕ → ℕ → Type 0) → P k (get_or tree (2 * k) 0) → P k (get_or tree (2 * k + 1) 0) → (c : ℕ)
        → (c ≢ k → P c (get_or tree c 0)) → P c (get_or next c 0)
    each P l r c h = go (ℕ_discrete c k)
      where
        go : Dec (c ≡ k) → P c (get_or next c 0)
        go (yes e) = rw (e, at-k) (picked-one keys tails tree k (P k) l r picked)
        go (no ne) = rw (other c ne) (h ne)

    rise : (c : ℕ) → 1 ≤ c → c < 2 * n → (Open c → ⊥) → c / 2 ≡ k → Above (n + get_or tree c 0) k
    rise c l u o e = subst (Above (n + get_or tree c 0)) e (above-up (n + get_or tree c 0) c (s.below c l u o))

    lead : (c : ℕ) → 1 ≤ c → c < n → (Open' c → ⊥) → Dec (c ≡ k) → Tops keys tails next c
    lead c l u o (yes e) =
        rw e
        (record {
          first = rw (at-k, other (2 * k) (omega arith)) (picked_first keys tails tree k picked);
          second = rw (at-k, other (2 * k + 1) (omega arith)) (picked-second keys tails tree k picked);
        })
    lead c l u o (no ne) =
        let b = s.tops c l u (kept c o ne) in
        let p = up c l o in
        record {
          first = rw (other c ne, other (2 * c) (λ e. p (omega arith))) b.first;
          second = rw (other c ne, other (2 * c + 1) (λ e. p (omega arith))) b.second;
        }

    pub settled-put : Settled keys tails n (set tree k w) Open'
    settled-put =
        record {
          size = length-set tree k w ∙ s.size;
          leaf = λ i l. other (n + i) (omega arith) ∙ s.leaf i l;
          few = λ c l u o.
              each (λ _ a. a < n)
              (s.few (2 * k) (omega arith) (omega arith) first)
              (s.few (2 * k + 1) (omega arith) (omega arith) second)
              c
              (λ ne. s.few c l u (kept c o ne));
          below = λ c l u o.
              each (λ b a. Above (n + a) b)
              (rise (2 * k) (omega arith) (omega arith) first (omega arith))
              (rise (2 * k + 1) (omega arith) (omega arith) second (omega arith))
              c
              (λ ne. s.below c l u (kept c o ne));
          tops = λ c l u o. lead c l u o (ℕ_discrete c k);
        }
