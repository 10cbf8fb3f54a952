-- The change that makes a store s a store t: "images of exactly the blocks that it alters, in ascending order of
-- number". The list of its block stores is worked out from both.
use Rattle.std.specs.Prelude.{not, List, [], ℕ, zero, suc, length}
use Rattle.lists.specs.Lists.{keep, bind, up_from}
use Rattle.lists.specs.Block.{blocks, block}
use Rattle.store.specs.Store.{number_at}
use Rattle.journal.specs.Journal.{Disk, BlockStore, equal, run, stores}

-- the blocks whose 512 bytes differ, ascending
unfoldable pub altered : (s t : List ℕ) → List ℕ
altered s t = keep (λ k. not (equal (block s k) (block t k))) (up_from 0 (blocks s))

unfoldable pub images_of : (s t : List ℕ) → List ℕ
images_of s t = bind (altered s t) (block t)

-- a change that alters nothing, as that of a refused call, has no block stores
abbrev pub stores_in : (n : ℕ) → (number : ℕ) → (s t : List ℕ) → List BlockStore
stores_in zero number s t = []
stores_in (suc n) number s t = stores number (altered s t) (images_of s t) (suc n)

unfoldable pub stores_to : (number : ℕ) → (s t : List ℕ) → List BlockStore
stores_to number s t = stores_in (length (altered s t)) number s t

-- the block stores of a change of the store to t, under the store's own number
abbrev pub change_stores : Disk → (t : List ℕ) → List BlockStore
change_stores d t = stores_to (number_at d.store) d.store t

-- all of them, in order
unfoldable pub written : Disk → (t : List ℕ) → Disk
written d t = run (change_stores d t) d
