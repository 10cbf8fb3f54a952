-- The winner tree built and replayed: the nodes that are open at each turn, and what a finished tree says.
use Rattle.std.specs.Prelude.{◌≡◌, refl, ◌≢◌, Bool, true, false, List, ℕ, zero, suc, ◌+◌, ◌*◌, ◌-◌, ◌/◌, ◌≤◌, ◌<◌, length, get_or, set}
use Rattle.std.proofs.Common.{sym, ap₂, subst, ◌∙◌, arith, get_or-set_same}
use Rattle.std.proofs.Math.Decide.{ℕ_discrete}
use Rattle.merge.specs.Tree.{max_pages, halves, Above, Nowhere, ahead, winner, Tops, Settled, Won}
use Rattle.merge.specs.TreeLaws.{ahead-refl, ahead-trans}
use Rattle.merge.specs.NodeLaws.{halves-suc, halves-le, above-up, above_half, not-above, above-none, above-one}
use Rattle.merge.specs.TreeLaws.{Picked, winner-picked, here-picked, side-picked, settled-more, settled-put}

-- node c is one that `build_tree` comes to after node k
abbrev pub Under : (k c : ℕ) → Type 0
Under k c = c < k

module _ (keys tails : List ℕ) (n : ℕ) (tree : List ℕ) where
  -- what the step at node k reads is in range
  pub pages-below : (Open : ℕ → Type 0) (k : ℕ) → 1 ≤ k → k < n → n ≤ max_pages → (Open (2 * k) → ⊥)
      → (Open (2 * k + 1) → ⊥) → Settled keys tails n tree Open
      → (k < max_pages) × (get_or tree (2 * k) 0 < max_pages) × (get_or tree (2 * k + 1) 0 < max_pages)
  pages-below Open k l u m o p s =
      let a = s.few (2 * k) (omega arith) (omega arith) o in
      let b = s.few (2 * k + 1) (omega arith) (omega arith) p in
      (omega arith, omega arith, omega arith)

  -- ---- building: the nodes under k are open

  pub leaves-settled : length tree ≡ 2 * max_pages → ((i : ℕ) → i < n → get_or tree (n + i) 0 ≡ i)
      → Settled keys tails n tree (Under n)
  leaves-settled size leaf =
      record {
        size = size;
        leaf = leaf;
        few = λ c l u o. omega (arith, page c u o);
        below = λ c l u o. (0, omega (arith, page c u o));
        tops = λ c l u o. absurd (o u);
      }
    where
      page : (c : ℕ) → c < 2 * n → (c < n → ⊥) → n + get_or tree c 0 ≡ c
      page c u o =
          let e : n + (c - n) ≡ c = omega arith in
          omega (arith, rw e at (leaf (c - n) (omega arith)))

  pub built-next : (k : ℕ) → 1 < k → k ≤ n → n ≤ max_pages → Settled keys tails n tree (Under k)
      → Settled keys tails n (set tree (k - 1) (winner keys tails tree (k - 1))) (Under (k - 1))
  built-next k l u m s =
      settled-put keys tails n tree (Under k) (Under (k - 1)) (k - 1) s m (omega arith) (omega arith)
      (λ o. omega arith) (λ o. omega arith) (λ c o ne p. omega arith) (λ c b o. omega arith)
      (winner keys tails tree (k - 1)) (winner-picked keys tails tree (k - 1))

  pub built-won : (k : ℕ) → k ≤ 1 → Settled keys tails n tree (Under k) → Won keys tails n tree
  built-won k l s = settled-more keys tails n tree (Under k) Nowhere (λ c b o p. omega arith) s

  -- ---- replaying: the nodes above k are open, and k

  replayed-next : (k : ℕ) → 1 ≤ k → k < n → n ≤ max_pages → Settled keys tails n tree (Above k)
      → (w : ℕ) → Picked keys tails tree k w → Settled keys tails n (set tree k w) (Above (k / 2))
  replayed-next k l u m s =
      settled-put keys tails n tree (Above k) (Above (k / 2)) k s m l u
      (not-above k (2 * k) (omega arith)) (not-above k (2 * k + 1) (omega arith))
      (λ c o ne a. o (above_half k c ne a)) (λ c b o e. o (0, sym e))

  pub replayed-won : (k : ℕ) → k ≤ 0 → Settled keys tails n tree (Above k) → Won keys tails n tree
  replayed-won k l s =
      let e : k ≡ 0 = omega arith in
      settled-more keys tails n tree (Above k) Nowhere (λ c b o a. above-none c b (rw e at a)) s

-- page p, of key x, goes up from node k: the nodes above it are open
pub record Rising (keys tails : List ℕ) (n : ℕ) (tree : List ℕ) (k p x : ℕ) : Type 0 where
  pub node : (1 ≤ k) × (k < 2 * n)
  pub page : p ≡ get_or tree k 0
  pub key : x ≡ get_or keys p 0
  pub rest : Settled keys tails n tree (Above (k / 2))

module _ {keys tails : List ℕ} {n : ℕ} {tree : List ℕ} {k p x : ℕ} (few : n ≤ max_pages)
    (r : Rising keys tails n tree k p x) where
  -- the sibling of node k is right, so that its page is in range
  pub sibling-few : 1 < k → get_or tree (4 * (k / 2) + 1 - k) 0 < n
  sibling-few l =
      r.rest.few (4 * (k / 2) + 1 - k) (omega (arith, l)) (omega (arith, l, r.node.1))
      (not-above (k / 2) (4 * (k / 2) + 1 - k) (omega (arith, l)))

  pub page-few : p < n
  page-few =
      omega (
        arith,
        r.page,
        r.rest.few k r.node.0 r.node.1 (not-above (k / 2) k (omega (arith, r.node.0))),
      )

  -- the page that is ahead goes up to the node above node k
  rise : (w : ℕ) → 1 < k → Picked keys tails tree (k / 2) w
      → Rising keys tails n (set tree (k / 2) w) (k / 2) w (get_or keys w 0)
  rise w l picked =
      record {
        node = (omega (arith, l), omega (arith, l, r.node.1));
        page = sym (get_or-set_same tree (k / 2) w 0 (omega (arith, r.rest.size, r.node.1, few)));
        key = refl;
        rest =
            replayed-next keys tails n tree (k / 2) (omega (arith, l)) (omega (arith, r.node.1)) few
            r.rest w picked;
      }

  module _ (l : 1 < k) (q : ℕ) (e : q ≡ get_or tree (4 * (k / 2) + 1 - k) 0) where
    test : (t : Bool) → ahead keys tails p q ≡ t
        → ahead keys tails (get_or tree k 0) (get_or tree (4 * (k / 2) + 1 - k) 0) ≡ t
    test t h = ap₂ (λ (a b : ℕ). ahead keys tails a b) (sym r.page) (sym e) ∙ h

    pub rise-here : ahead keys tails p q ≡ true → Rising keys tails n (set tree (k / 2) p) (k / 2) p x
    rise-here h =
        subst (Rising keys tails n (set tree (k / 2) p) (k / 2) p) (sym r.key)
        (rise p l (subst (Picked keys tails tree (k / 2)) (sym r.page) (here-picked keys tails tree k
        (test true h))))

    pub rise-side : ahead keys tails p q ≡ false
        → Rising keys tails n (set tree (k / 2) q) (k / 2) q (get_or keys q 0)
    rise-side h =
        rise q l (subst (Picked keys tails tree (k / 2)) (sym e) (side-picked keys tails tree k (test false h)))

  pub risen : k ≤ 1 → Won keys tails n tree
  risen l = replayed-won keys tails n tree (k / 2) (omega (arith, l)) r.rest

-- ---- a finished tree

module _ {keys tails : List ℕ} {n : ℕ} {tree : List ℕ} (s : Won keys tails n tree) where
  -- no node is open
  shut : ⊥ → ⊥
  shut o = o

  pub won-upto : 1 ≤ n → get_or tree 1 0 < n
  won-upto l = s.few 1 (omega arith) (omega arith) shut

  -- a node's page is ahead of that at each of the two nodes below it
  top-over : (c : ℕ) → 2 ≤ c → c < 2 * n → ahead keys tails (get_or tree (c / 2) 0) (get_or tree c 0) ≡ true
  top-over c l u = go (ℕ_discrete c (2 * (c / 2)))
    where
      Over : ℕ → Type 0
      Over x = ahead keys tails (get_or tree (c / 2) 0) (get_or tree x 0) ≡ true

      b : Tops keys tails tree (c / 2)
      b = s.tops (c / 2) (omega arith) (omega arith) shut

      go : Dec (c ≡ 2 * (c / 2)) → Over c
      go (yes e) = subst Over (sym e) b.first
      go (no ne) =
          let e : 2 * (c / 2) + 1 ≡ c = omega arith in
          subst Over e b.second

  halves-first : (d i : ℕ) → i < n → 1 ≤ halves d (n + i)
      → ahead keys tails (get_or tree (halves d (n + i)) 0) i ≡ true
  halves-first zero i l b = rw (s.leaf i l) (ahead-refl keys tails i)
  halves-first (suc d) i l b =
      let c = halves d (n + i) in
      let e = halves-suc d (n + i) in
      ahead-trans keys tails (get_or tree (halves (suc d) (n + i)) 0) (get_or tree c 0) i
      (subst (λ (x : ℕ). ahead keys tails (get_or tree x 0) (get_or tree c 0) ≡ true) (sym e)
      (top-over c (omega (arith, e, b)) (omega (arith, halves-le d (n + i)))))
      (halves-first d i l (omega (arith, e, b)))

  -- a node's page is ahead of each page whose leaf is below the node
  pub won-below : (c i : ℕ) → i < n → 1 ≤ c → Above (n + i) c → ahead keys tails (get_or tree c 0) i ≡ true
  won-below c i l b (d, e) = rw e at (halves-first d i l (omega (arith, e, b)))

  pub won-first : (i : ℕ) → i < n → ahead keys tails (get_or tree 1 0) i ≡ true
  won-first i l = won-below 1 i l (omega arith) (above-one (n + i) (n + i) (omega arith) (omega arith))

  -- the head of page j changes: the nodes above its leaf are open
  module _ (keys' tails' : List ℕ) (j : ℕ) (k : (i : ℕ) → i ≢ j → get_or keys' i 0 ≡ get_or keys i 0)
      (m : (i : ℕ) → i ≢ j → get_or tails' i 0 ≡ get_or tails i 0) where
    pub ahead-kept : (a b : ℕ) → a ≢ j → b ≢ j → ahead keys tails a b ≡ true → ahead keys' tails' a b ≡ true
    unfolding ahead
    ahead-kept a b p q h = rw (k a p, k b q, m a p, m b q) h

    -- the page at b, which is c or stands below it, is not j, since c does not stand above the leaf of j
    not-moved : (b c : ℕ) → 1 ≤ b → b < 2 * n → c < n → (Above (n + j) b → Above (n + j) c)
        → (Above ((n + j) / 2) c → ⊥) → get_or tree b 0 ≢ j
    not-moved b c l u v f o e =
        o (above_half (n + j) c (omega arith) (f (subst (λ (a : ℕ). Above (n + a) b) e (s.below b l u shut))))

    half : (b c : ℕ) → b / 2 ≡ c → Above (n + j) b → Above (n + j) c
    half b c e a = subst (Above (n + j)) e (above-up (n + j) b a)

    pub settled-moved : Settled keys' tails' n tree (Above ((n + j) / 2))
    settled-moved =
        record {
          size = s.size;
          leaf = s.leaf;
          few = λ c l u o. s.few c l u shut;
          below = λ c l u o. s.below c l u shut;
          tops = λ c l u o.
              let b = s.tops c l u shut in
              let p : get_or tree c 0 ≢ j = not-moved c c l (omega arith) u (λ a. a) o in
              record {
                first =
                    ahead-kept (get_or tree c 0) (get_or tree (2 * c) 0) p
                    (not-moved (2 * c) c (omega arith) (omega arith) u (half (2 * c) c (omega arith)) o)
                    b.first;
                second =
                    ahead-kept (get_or tree c 0) (get_or tree (2 * c + 1) 0) p
                    (not-moved (2 * c + 1) c (omega arith) (omega arith) u (half (2 * c + 1) c (omega arith)) o)
                    b.second;
              };
        }
