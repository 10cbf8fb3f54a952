-- The winner tree over n pages, each with a head of two numbers, its key and its tail. Page i is leaf n + i, the nodes
-- below node k are 2 k and 2 k + 1.
use Rattle.std.specs.Prelude.{◌≡◌, ◌≢◌, Bool, true, cond, List, ℕ, zero, suc, ◌+◌, ◌*◌, ◌/◌, ◌≤◌, ◌<◌, eqb, ltb, leb, length, get_or}
use Rattle.address.specs.Limits.{max_blocks}

-- the most pages of a merge: those of a walk, or of two that have no block in common
abbrev pub max_pages : ℕ
max_pages = suc max_blocks

-- half of k, d times
abbrev pub halves : (d : ℕ) → ℕ → ℕ
halves zero k = k
halves (suc d) k = halves d (k / 2)

-- node c stands above node k, or is it
abbrev pub Above : (k c : ℕ) → Type 0
Above k c = (d : ℕ) × (halves d k ≡ c)

abbrev pub Nowhere : ℕ → Type 0
Nowhere c = ⊥

-- a head of key k and tail m comes no later than one of key l and tail o
abbrev pub no_later : (k m l o : ℕ) → Bool
no_later k m l o = cond (eqb k l) (leb m o) (ltb k l)

module _ (keys tails : List ℕ) where
  -- the head of page a comes no later than that of page b
  unfoldable pub ahead : (a b : ℕ) → Bool
  ahead a b = no_later (get_or keys a 0) (get_or tails a 0) (get_or keys b 0) (get_or tails b 0)

  -- of the pages at the two nodes below node k, the one that is ahead
  unfoldable pub winner : (tree : List ℕ) → (k : ℕ) → ℕ
  winner tree k =
      cond (ahead (get_or tree (2 * k) 0) (get_or tree (2 * k + 1) 0)) (get_or tree (2 * k) 0) (get_or tree (2 * k + 1) 0)

  -- the page at node c is ahead of those at the nodes below it
  pub record Tops (tree : List ℕ) (c : ℕ) : Type 0 where
    pub first : ahead (get_or tree c 0) (get_or tree (2 * c) 0) ≡ true
    pub second : ahead (get_or tree c 0) (get_or tree (2 * c + 1) 0) ≡ true

  -- every node is right but those that are open: its page is one whose leaf is below it, and it is ahead
  pub record Settled (n : ℕ) (tree : List ℕ) (Open : ℕ → Type 0) : Type 0 where
    pub size : length tree ≡ 2 * max_pages
    pub leaf : (i : ℕ) → i < n → get_or tree (n + i) 0 ≡ i
    pub few : (c : ℕ) → 1 ≤ c → c < 2 * n → (Open c → ⊥) → get_or tree c 0 < n
    pub below : (c : ℕ) → 1 ≤ c → c < 2 * n → (Open c → ⊥) → Above (n + get_or tree c 0) c
    pub tops : (c : ℕ) → 1 ≤ c → c < n → (Open c → ⊥) → Tops tree c

  -- every node is right
  abbrev pub Won : (n : ℕ) (tree : List ℕ) → Type 0
  Won n tree = Settled n tree Nowhere

  -- page p is another page than page j, and is ahead of every page but page j
  pub record NextBest (n j p : ℕ) : Type 0 where
    pub other : p ≢ j
    pub first : (i : ℕ) → i < n → i ≢ j → ahead p i ≡ true

  -- the page at node 0 comes second, where it is one of the n
  abbrev pub Second : (n : ℕ) (tree : List ℕ) → Type 0
  Second n tree = get_or tree 0 0 < n → NextBest n (get_or tree 1 0) (get_or tree 0 0)
