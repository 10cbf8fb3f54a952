-- A walk as it is lent, a slice of blocks: what the loops along it ask, and its pages.
use Rattle.std.specs.Prelude.{◌≡◌, true, List, ℕ, suc, ◌≤◌, ◌<◌, length, get_or}
use Rattle.lists.specs.Lists.{all, Each}
use Rattle.lists.specs.Block.{blocks, block}
use Rattle.page.specs.declared.Entry.{Entry}
use Rattle.page.specs.Entries.{entries_of}
use Rattle.page.specs.Rule.{page_ok}
use Rattle.page.specs.Allowed.{Sorted}
use Rattle.address.specs.Limits.{max_blocks}

module _ (s : List ℕ) where
  -- the entries of block k
  abbrev pub entries_on : ℕ → List Entry
  entries_on k = entries_of (block s k)

  -- each block passes the page rule
  abbrev pub PagesOk : List ℕ → Type 0
  PagesOk ks = all (λ k. page_ok (block s k)) ks ≡ true

  module _ (ks : List ℕ) where
    -- the blocks are no more than a walk has room for, and the store's
    pub record Within : Type 0 where
      pub few : length ks ≤ suc max_blocks
      pub inside : Each (λ k. k < blocks s) ks

    -- l is the page at index i; where the pages pass the rule it is sorted
    pub record PageOn (i : ℕ) (l : List ℕ) : Type 0 where
      pub page : l ≡ block s (get_or ks i 0)
      pub whole : length l ≡ 512
      pub sorted : PagesOk ks → Sorted l
