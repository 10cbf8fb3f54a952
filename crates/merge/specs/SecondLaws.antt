-- The page that comes second, at node 0: how it is found, and what it says when the head of the first page goes on.
use Rattle.std.specs.Prelude.{◌≡◌, refl, ◌≢◌, true, false, List, ℕ, ◌+◌, ◌*◌, ◌-◌, ◌/◌, ◌≤◌, ◌<◌, get_or, set}
use Rattle.std.proofs.Common.{sym, subst, ◌∙◌, ⊎_elim, arith, length-set, get_or-set_same, get_or-set_other}
use Rattle.std.proofs.Math.Decide.{ℕ_discrete}
use Rattle.merge.specs.Tree.{Above, ahead, Won, NextBest, Second}
use Rattle.merge.specs.TreeLaws.{ahead-put, ahead-yes, ahead-refl, ahead-other, ahead-trans}
use Rattle.merge.specs.NodeLaws.{above-up, above_half, not-above, above-one, above-split, above_apart}
use Rattle.merge.specs.ReplayLaws.{won-below, ahead-kept}

-- page p, of key x, is ahead of the pages whose leaves are below node k, but for page j
pub record Runner (keys tails : List ℕ) (n j k p x : ℕ) : Type 0 where
  pub node : (1 ≤ k) × (k < 2 * n)
  pub above : Above (n + j) k
  pub page : p < n
  pub key : x ≡ get_or keys p 0
  pub other : p ≢ j
  pub first : (i : ℕ) → i < n → i ≢ j → Above (n + i) k → ahead keys tails p i ≡ true

module _ {keys tails : List ℕ} {n : ℕ} {tree : List ℕ} (s : Won keys tails n tree) where
  -- ---- the page that comes second is found

  module _ (j k : ℕ) (l : 2 ≤ k) (u : k < 2 * n) (above : Above (n + j) k) where
    abbrev side : ℕ
    side = 4 * (k / 2) + 1 - k

    -- the page at the sibling of a node above the leaf of page j
    pub side-few : get_or tree (4 * (k / 2) + 1 - k) 0 < n
    side-few = s.few side (omega arith) (omega arith) (λ o. o)

    side-other : get_or tree side 0 ≢ j
    side-other e =
        above_apart (n + j) k l above
        (subst (λ (a : ℕ). Above (n + a) side) e (s.below side (omega arith) (omega arith) (λ o. o)))

    -- page w is ahead of the page that came up to node k, and of that at its sibling
    climb : (p x w : ℕ) → Runner keys tails n j k p x → w < n → w ≢ j → ahead keys tails w p ≡ true
        → ahead keys tails w (get_or tree side 0) ≡ true → Runner keys tails n j (k / 2) w (get_or keys w 0)
    climb p x w r few ne f g =
        record {
          node = (omega arith, omega arith);
          above = above-up (n + j) k above;
          page = few;
          key = refl;
          other = ne;
          first = λ i b o h.
              ⊎_elim
              (λ a. ahead-trans keys tails w p i f (r.first i b o a))
              (λ a. ahead-trans keys tails w (get_or tree side 0) i g (won-below s side i b (omega arith) a))
              (above-split (n + i) k (omega arith) h);
        }

    module _ (p x : ℕ) (r : Runner keys tails n j k p x) (q : ℕ) (e : q ≡ get_or tree (4 * (k / 2) + 1 - k) 0) where
      pub climb-here : ahead keys tails p q ≡ true → Runner keys tails n j (k / 2) p x
      climb-here h =
          subst (Runner keys tails n j (k / 2) p) (sym r.key)
          (climb p x p r r.page r.other (ahead-refl keys tails p) (rw e at h))

      pub climb-side : ahead keys tails p q ≡ false → Runner keys tails n j (k / 2) q (get_or keys q 0)
      climb-side h =
          subst (λ (w : ℕ). Runner keys tails n j (k / 2) w (get_or keys w 0)) (sym e)
          (climb p x (get_or tree side 0) r side-few side-other
          (rw e at (ahead-other keys tails p q h)) (ahead-refl keys tails (get_or tree side 0)))

  -- page j alone is below its leaf, so that the page next to it is ahead of all others below the node above
  pub climb-leaf : (j : ℕ) → j < n → n ≢ 1
      → Runner keys tails n j ((n + j) / 2) (get_or tree (4 * ((n + j) / 2) + 1 - (n + j)) 0)
      (get_or keys (get_or tree (4 * ((n + j) / 2) + 1 - (n + j)) 0) 0)
  climb-leaf j l ne =
      climb j k (omega arith) (omega arith) (0, refl) p (get_or keys p 0) p
      (record {
        node = (omega arith, omega arith);
        above = (0, refl);
        page = few;
        key = refl;
        other = other;
        first = λ i b o h.
            absurd (not-above ((n + i) / 2) k (omega arith) (above_half (n + i) k (λ e. o (omega arith)) h));
      })
      few other (ahead-refl keys tails p) (ahead-refl keys tails p)
    where
      k : ℕ
      k = n + j

      p : ℕ
      p = get_or tree (4 * (k / 2) + 1 - k) 0

      few : p < n
      few = side-few j k (omega arith) (omega arith) (0, refl)

      other : p ≢ j
      other = side-other j k (omega arith) (omega arith) (0, refl)

  pub climbed : (j k p x : ℕ) → k ≤ 1 → Runner keys tails n j k p x → NextBest keys tails n j p
  climbed j k p x l r =
      let e : 1 ≡ k = omega (arith, r.node.0) in
      record {
        other = r.other;
        first = λ i b o.
            r.first i b o (subst (Above (n + i)) e (above-one (n + i) (n + i) (omega arith) (omega arith)));
      }

  -- ---- node 0 is put

  module _ (v : ℕ) where
    abbrev next : List ℕ
    next = set tree 0 v

    others : (c : ℕ) → 1 ≤ c → get_or next c 0 ≡ get_or tree c 0
    others c l = get_or-set_other tree 0 c v 0 (omega arith)

    pub won-put : Won keys tails n (set tree 0 v)
    won-put =
        record {
          size = length-set tree 0 v ∙ s.size;
          leaf = λ i l. others (n + i) (omega arith) ∙ s.leaf i l;
          few = λ c l u o. rw (others c l) (s.few c l u o);
          below = λ c l u o. rw (others c l) (s.below c l u o);
          tops = λ c l u o.
              let b = s.tops c l u o in
              record {
                first = rw (others c l, others (2 * c) (omega arith)) b.first;
                second = rw (others c l, others (2 * c + 1) (omega arith)) b.second;
              };
        }

    pub second-put : (j : ℕ) → get_or tree 1 0 ≡ j → (v < n → NextBest keys tails n j v)
        → Second keys tails n (set tree 0 v)
    second-put j e f h =
        let z : get_or next 0 0 ≡ v = get_or-set_same tree 0 v 0 (omega (arith, s.size)) in
        rw (z, others 1 (omega arith), e) (f (omega (arith, h, z)))

  pub second_none : Second keys tails n (set tree 0 n)
  second_none = second-put n (get_or tree 1 0) refl (λ l. absurd (omega arith))

  -- ---- the head of page j goes on

  module _ (keys' tails' : List ℕ) (j : ℕ) (k : (i : ℕ) → i ≢ j → get_or keys' i 0 ≡ get_or keys i 0)
      (m : (i : ℕ) → i ≢ j → get_or tails' i 0 ≡ get_or tails i 0) (p : ℕ) (next : NextBest keys tails n j p) where
    pub next-kept : NextBest keys' tails' n j p
    next-kept =
        record {
          other = next.other;
          first = λ i l ne. ahead-kept s keys' tails' j k m p i next.other ne (next.first i l ne);
        }

    -- it is still ahead of the page that comes second, so that it is ahead of all
    module _ (still : ahead keys' tails' j p ≡ true)
        (later : (get_or keys j 0 ≤ get_or keys' j 0)
        × (get_or keys j 0 ≡ get_or keys' j 0 → get_or tails j 0 ≤ get_or tails' j 0)) where
      all : (i : ℕ) → i < n → ahead keys' tails' j i ≡ true
      all i l = go (ℕ_discrete i j)
        where
          go : Dec (i ≡ j) → ahead keys' tails' j i ≡ true
          go (yes e) = rw e (ahead-refl keys' tails' j)
          go (no ne) = ahead-trans keys' tails' j p i still (next-kept.first i l ne)

      grown : (a : ℕ) → a ≢ j → ahead keys tails a j ≡ true → ahead keys' tails' a j ≡ true
      grown a ne h =
          let y = ahead-yes keys tails a j h in
          let q = k a ne in
          ahead-put keys' tails' a j (omega (arith, q, y.0, later.0))
          (λ e. omega (
            arith,
            m a ne,
            y.1 (omega (arith, e, q, y.0, later.0)),
            later.1 (omega (arith, e, q, y.0, later.0)),
          ))

      over : (a b : ℕ) → b < n → ahead keys tails a b ≡ true → ahead keys' tails' a b ≡ true
      over a b l h = go (ℕ_discrete a j) (ℕ_discrete b j)
        where
          go : Dec (a ≡ j) → Dec (b ≡ j) → ahead keys' tails' a b ≡ true
          go (yes e) d = rw e (all b l)
          go (no ne) (yes e) = rw e (grown a ne (rw e at h))
          go (no ne) (no q) = ahead-kept s keys' tails' j k m a b ne q h

      pub kept-won : Won keys' tails' n tree
      kept-won =
          record {
            size = s.size;
            leaf = s.leaf;
            few = s.few;
            below = s.below;
            tops = λ c l u o.
                let b = s.tops c l u o in
                record {
                  first =
                      over (get_or tree c 0) (get_or tree (2 * c) 0) (s.few (2 * c) (omega arith) (omega arith) o)
                      b.first;
                  second =
                      over (get_or tree c 0) (get_or tree (2 * c + 1) 0)
                      (s.few (2 * c + 1) (omega arith) (omega arith) o) b.second;
                };
          }
