-- A draft: a change that is being built, and the store as it will stand after it, but for the checks.
use Rattle.std.specs.Prelude.{◌≡◌, ◌⊎◌, List, ℕ, ◌+◌, ◌*◌, ◌≤◌, ◌<◌, length, get_or}
use Rattle.lists.specs.Block.{blocks, block, set_block}
use Rattle.page.specs.declared.Entry.{Entry}
use Rattle.page.specs.Entries.{encode_page}
use Rattle.store.specs.declared.Change.{Change}
use Rattle.store.specs.Change.{Fits, commits}

-- the change c with its images makes d of the store s
pub record Draft (s : List ℕ) (c : Change) (images d : List ℕ) : Type 0 where
  pub whole : length s ≡ 512 * blocks s
  pub fits : Fits s c.numbers c.count
  pub eight : length images ≡ 4096
  pub makes : d ≡ commits s c.numbers images c.count

-- block k is one of the change's
abbrev pub Listed : Change → ℕ → Type 0
Listed c k = (j : ℕ) × (j < c.count) × (get_or c.numbers j 0 ≡ k)

-- block k may be edited: it is one of the store's, and it is listed or there is room for one more
pub record Ready (s : List ℕ) (c : Change) (images d : List ℕ) (k : ℕ) : Type 0 where
  pub draft : Draft s c images d
  pub inside : k < blocks s
  pub room : (c.count < 8) ⊎ Listed c k

-- r lists block k and the blocks that c lists
pub record Lists (c : Change) (k : ℕ) (r : Change) : Type 0 where
  pub listed : Listed r k
  pub keeps : (j : ℕ) → Listed c j → Listed r j
  pub few : r.count ≤ c.count + 1
  pub same : Listed c k → r.count ≡ c.count

-- block k of the draft is edited by f
pub record Edited (s : List ℕ) (c : Change) (images : List ℕ) (k : ℕ) (f : List ℕ → List ℕ)
    (r : Change) (images' : List ℕ) : Type 0 where
  pub lists : Lists c k r
  pub draft : (d : List ℕ) → Draft s c images d → Draft s r images' (set_block d k (f (block d k)))

-- block k of the draft, a page of some entries, becomes a page of the entries that f makes of them
pub record PageEdited (s : List ℕ) (c : Change) (images : List ℕ) (k : ℕ) (f : List Entry → List Entry)
    (r : Change) (images' : List ℕ) : Type 0 where
  pub lists : Lists c k r
  pub draft : (d : List ℕ) → Draft s c images d → (es : List Entry) (tail : List ℕ) → block d k ≡ encode_page es tail
      → Draft s r images' (set_block d k (encode_page (f es) tail))
