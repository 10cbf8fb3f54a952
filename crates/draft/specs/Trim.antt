-- A draft without the blocks that stand in the store already.
use Rattle.std.specs.Prelude.{◌≡◌, ◌≢◌, Bool, true, false, cond, ◌&&◌, List, [], ◌∷◌, ℕ, ◌+◌, ◌<◌, eqb, get_or}
use Rattle.lists.specs.Lists.{bind, up_from}
use Rattle.lists.specs.Block.{blocks, block}
use Rattle.store.specs.declared.Change.{Change}
use Rattle.store.specs.Store.{covered}
use Rattle.draft.specs.Draft.{Draft, Listed}

-- whether two lists are one
abbrev pub alike : List ℕ → List ℕ → Bool
alike [] [] = true
alike [] (y ∷ ys) = false
alike (x ∷ xs) [] = false
alike (x ∷ xs) (y ∷ ys) = eqb x y && alike xs ys

-- a block of d, or the store's where they differ at most in their checks
abbrev pub trimmed_block : List ℕ → List ℕ → ℕ → List ℕ
trimmed_block s d k = cond (alike (covered (block s k)) (covered (block d k))) (block s k) (block d k)

unfoldable pub trimmed : List ℕ → List ℕ → List ℕ
trimmed s d = bind (up_from 0 (blocks s)) (trimmed_block s d)

-- the change makes the trimmed draft, and lists the blocks that it alters
pub record Trimmed (s d : List ℕ) (r : Change) (images' : List ℕ) : Type 0 where
  pub draft : Draft s r images' (trimmed s d)
  pub alters : (k : ℕ) → Listed r k → covered (block s k) ≢ covered (block d k)

-- k is listed after c's numbers
pub record Kept (c : Change) (k : ℕ) (r : Change) : Type 0 where
  pub more : r.count ≡ c.count + 1
  pub last : get_or r.numbers c.count 0 ≡ k
  pub before : (j : ℕ) → j < c.count → get_or r.numbers j 0 ≡ get_or c.numbers j 0
