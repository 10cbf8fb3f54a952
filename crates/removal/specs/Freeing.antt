-- The overflow page that a cut leaves empty: its bit, and the blocks that change where it is freed.
use Rattle.std.specs.Prelude.{◌≡◌, ◌≢◌, Bool, cond, List, ◌++◌, ℕ, ◌+◌, ◌≤◌, ◌<◌, min, eqb, get_or, drop, replicate}
use Rattle.std.proofs.lemmas.List.Edits.{sets}
use Rattle.lists.specs.Block.{blocks, block}
use Rattle.endian.specs.Endian.{le32}
use Rattle.address.specs.Role.{Role, meta, bucket_page, bit_page, unmade}
use Rattle.page.specs.declared.Pair.{Pair}
use Rattle.store.specs.declared.Change.{Change}
use Rattle.store.specs.Store.{prev_at, next_at}
use Rattle.model.specs.Index.{Page, Index, chain}
use Rattle.store.specs.Flags.{no_link}
use Rattle.frame.specs.Frame.{more_place, frees_at}
use Rattle.frame.specs.ImagesLaws.{no_page}
use Rattle.plan.specs.Sketch.{Sketch}
use Rattle.std.specs.Prelude.{Option, Some, None}

-- ---- the bit

-- that of a page with these entries, one of which is taken out: an overflow page of one entry is left empty
abbrev pub emptied : Role → (entries : ℕ) → Option ℕ
emptied meta n = None
emptied (bucket_page b) n = None
emptied (bit_page i) n = cond (eqb n 1) (Some i) None
emptied unmade n = None

-- that of the first overflow page with the pair, if that is left empty
abbrev pub freed_if : (empty : Bool) → List Page → Pair → Option ℕ
freed_if empty gs p = cond empty (Some (get_or gs (more_place p gs) no_page).bit) None

-- that of the page which the pair leaves empty in bucket b's chain
abbrev pub freed_at : Index → (b : ℕ) → Pair → Option ℕ
freed_at x b p = freed_if (frees_at x b p) (chain x b).more p

-- "its bit set to 0"
abbrev pub clears : Option ℕ → (ℕ → ℕ) → ℕ → ℕ
clears (Some n) bit i = cond (eqb i n) 0 (bit i)
clears None bit i = bit i

-- the first free bit then
abbrev pub lowers : Option ℕ → ℕ → ℕ
lowers (Some n) free = min n free
lowers None free = free

-- it is one of the bitmap's
abbrev pub Below : Option ℕ → Type 0
Below (Some n) = n < 2048
Below None = Unit {0}

-- ---- the page after the freed one, if there is one, gets its previous field

pub record Linkable (s : List ℕ) (c : Change) (images : List ℕ) (next : ℕ) (d : List ℕ) (n : ℕ) : Type 0 where
  pub ks : List ℕ
  pub sketch : Sketch s c images d n ks
  pub few : n < 8
  pub inside : next ≢ no_link → next < blocks s

pub record Linked (s : List ℕ) (c : Change) (images : List ℕ) (next prev : ℕ) (d : List ℕ) (n : ℕ) : Type 0 where
  pub d' : List ℕ
  pub ks : List ℕ
  pub sketch : Sketch s c images d' (n + 1) ks
  pub here : next ≢ no_link → block d' next ≡ sets (block d next) 492 (le32 prev)
  pub rest : (j : ℕ) → j < blocks s → j ≢ next → block d' j ≡ block d j

-- ---- the page in block k is unlinked and made unused

pub record Freeable (s : List ℕ) (c : Change) (images : List ℕ) (k : ℕ) (d : List ℕ) (n : ℕ) : Type 0 where
  pub ks : List ℕ
  pub sketch : Sketch s c images d n ks
  pub few : n + 3 ≤ 8
  pub inside : k < blocks s
  pub before : prev_at (block s k) < blocks s
  pub after : next_at (block s k) ≢ no_link → next_at (block s k) < blocks s
  pub apart : (prev_at (block s k) ≢ k) × (next_at (block s k) ≢ k) × (next_at (block s k) ≢ prev_at (block s k))

pub record Freeing (s : List ℕ) (c : Change) (images : List ℕ) (k : ℕ) (d : List ℕ) (n : ℕ) : Type 0 where
  pub d' : List ℕ
  pub ks : List ℕ
  pub sketch : Sketch s c images d' (n + 3) ks
  pub here : block d' k ≡ replicate 508 0 ++ drop 508 (block d k)
  pub before : block d' (prev_at (block s k)) ≡ sets (block d (prev_at (block s k))) 496 (le32 (next_at (block s k)))
  pub after : next_at (block s k) ≢ no_link
      → block d' (next_at (block s k)) ≡ sets (block d (next_at (block s k))) 492 (le32 (prev_at (block s k)))
  pub rest : (j : ℕ) → j < blocks s → j ≢ k → j ≢ prev_at (block s k) → j ≢ next_at (block s k) → block d' j ≡ block d j
