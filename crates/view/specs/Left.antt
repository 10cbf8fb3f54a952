-- The pairs of a hash code in what is left of merged pages: of the n own ones, whose fresh entries alone count where
-- `fresh`, and of the k old ones after them.
use Rattle.std.specs.Prelude.{◌≡◌, Bool, false, cond, List, ◌++◌, ℕ, ◌%◌, ◌/◌, ◌≤◌, ◌<◌, ltb}
use Rattle.lists.specs.Lists.{Each}
use Rattle.lists.specs.Block.{blocks}
use Rattle.page.specs.declared.Pair.{Pair}
use Rattle.page.specs.declared.Entry.{Entry}
use Rattle.chain.specs.Pairs.{pairs_in}
use Rattle.merge.specs.Merge.{joined}
use Rattle.merge.specs.Heads.{pair_from, first_at}

abbrev pub pairs_left : (f : ℕ → List Entry) (n k hash : ℕ) (fresh : Bool) → List Pair
pairs_left f n k h fresh = pairs_in h fresh (joined f 0 n) ++ pairs_in h false (joined f n k)

-- whether the fresh entries of page j alone count
abbrev pub fresh_at : (fresh : Bool) (n j : ℕ) → Bool
fresh_at fresh n j = cond (ltb j n) fresh false

-- no entry that is left of m pages has a smaller hash code
abbrev pub NoLower : (f : ℕ → List Entry) (m hash : ℕ) → Type 0
NoLower f m h = (i : ℕ) → i < m → Each (λ e. h ≤ e.pair.hash) (f i)

-- the key and the tail of the first entry that is left of a page, block b, tell its pair
pub record Told (s : List ℕ) (b key tail : ℕ) : Type 0 where
  pub inside : b < blocks s
  pub slot : tail % 64 < 40
  pub fits : tail / 64 < 65536
  pub pair : pair_from key (tail / 64) ≡ (first_at s b tail).pair
