-- The entry that a step of a pending split moves, and the walk in which it looks for copies.
use Rattle.std.specs.Prelude.{◌≡◌, Bool, true, false, List, ℕ, length, take}
use Rattle.lists.specs.Lists.{any}
use Rattle.page.specs.declared.Entry.{Entry}
use Rattle.page.specs.Pair.{is}
use Rattle.model.specs.Index.{Index, chain, entries_at, new_bucket}
use Rattle.model.specs.Steps.{moves, to_copy}
use Rattle.frame.specs.Frame.{chain_blocks}

-- an entry that is left to copy; to clear
abbrev pub movable : (copying : Bool) → Index → Entry → Bool
movable true x e = to_copy x e
movable false x e = moves x e

-- an entry that has a copy
abbrev pub copied : Index → Entry → Bool
copied x e = any (is e.pair) (entries_at x (new_bucket x))

-- the first n of bs are the blocks of the new chain
pub record NewChain (x : Index) (bs : List ℕ) (n : ℕ) : Type 0 where
  pub blocks : take n bs ≡ chain_blocks x (new_bucket x) (chain x (new_bucket x))
  pub count : n ≡ length (take n bs)

-- where the entries are fresh no copies are looked for, else in the new chain
abbrev pub Copies : (fresh : Bool) → Index → List ℕ → ℕ → Type 0
Copies true x bs n = n ≡ 0
Copies false x bs n = NewChain x bs n
