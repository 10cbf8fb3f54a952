-- The heads of the pages of a merge: the first entry that is left of each, as two numbers in whose order entries
-- stand. The tail of a page also tells its cursor, the slot of that entry.
use Rattle.std.specs.Prelude.{◌≡◌, List, [], ◌∷◌, ℕ, ◌+◌, ◌*◌, ◌/◌, ◌%◌, ◌≤◌, ◌<◌, length, get_or, drop}
use Rattle.lists.specs.Block.{blocks, block}
use Rattle.page.specs.declared.Pair.{Pair}
use Rattle.page.specs.declared.Entry.{Entry}
use Rattle.page.specs.Entries.{entry_at, entries_of}
use Rattle.page.specs.Places.{place_of}
use Rattle.page.specs.Allowed.{Sorted, Allowed}
use Rattle.merge.specs.declared.First.{First}
use Rattle.merge.specs.declared.Merge.{Merge}
use Rattle.merge.specs.Tree.{max_pages, Won, Second}
use Rattle.merge.specs.Merge.{Taken}

-- the key where nothing is left: no entry has it, since none has reading block 4294967295
abbrev pub no_key : ℕ
no_key = 18446744073709551615

-- hash code and reading block of a pair
abbrev pub pair_key : Pair → ℕ
pair_key p = p.hash * 4294967296 + p.block

-- the pair with a key and an offset
abbrev pub pair_from : (key offset : ℕ) → Pair
pair_from key offset = record { hash = key / 4294967296; block = key % 4294967296; offset = offset }

-- the key of the first entry
abbrev pub key_of : List Entry → ℕ
key_of [] = no_key
key_of (e ∷ es) = pair_key e.pair

-- its offset and the cursor
abbrev pub tail_of : (cursor : ℕ) → List Entry → ℕ
tail_of c [] = c
tail_of c (e ∷ es) = e.pair.offset * 64 + c

-- the first entry that is left of the page in block b, by the tail, that tells its slot
abbrev pub first_at : (s : List ℕ) (b tail : ℕ) → Entry
first_at s b tail = entry_at (block s b) (tail % 64)

-- what stands at node 1 of a merge
abbrev pub first_of : Merge → First
first_of m =
    record {
      page = get_or m.tree 1 0;
      key = get_or m.keys (get_or m.tree 1 0) 0;
      tail = get_or m.tails (get_or m.tree 1 0) 0;
    }

module _ (s ks : List ℕ) where
  -- the entries of page i
  abbrev pub page_at : ℕ → List Entry
  page_at i = entries_of (block s (get_or ks i 0))

  -- n pages: blocks of the store that pass the page rule
  pub record Pages (n : ℕ) : Type 0 where
    pub few : n ≤ max_pages
    pub inside : (i : ℕ) → i < n → get_or ks i 0 < blocks s
    pub sorted : (i : ℕ) → i < n → Sorted (block s (get_or ks i 0))
    pub allowed : (i : ℕ) → i < n → Allowed (page_at i)

  -- what is left of page i, by the tails
  abbrev pub left_of : (tails : List ℕ) → ℕ → List Entry
  left_of tails i = drop (get_or tails i 0 % 64) (page_at i)

  -- key and tail tell the head of page i
  pub record Head (keys tails : List ℕ) (i : ℕ) : Type 0 where
    pub key : get_or keys i 0 ≡ key_of (left_of tails i)
    pub tail : get_or tails i 0 ≡ tail_of (get_or tails i 0 % 64) (left_of tails i)
    pub few : get_or tails i 0 % 64 ≤ 40

  pub record Heads (n : ℕ) (keys tails : List ℕ) : Type 0 where
    pub keys-size : length keys ≡ max_pages
    pub tails-size : length tails ≡ max_pages
    pub each : (i : ℕ) → i < n → Head keys tails i

  -- a merge under way
  pub record Merging (n : ℕ) (keys tails tree : List ℕ) : Type 0 where
    pub pages : Pages n
    pub heads : Heads n keys tails
    pub won : Won keys tails n tree
    pub second : Second keys tails n tree

  -- a merge of the pages ks under way
  abbrev pub Underway : Merge → Type 0
  Underway m = Merging (length ks) m.keys m.tails m.tree

  -- every cursor stands at the sorted place of a pair
  abbrev pub CursorsAt : (from : Pair) (n : ℕ) (tails : List ℕ) → Type 0
  CursorsAt from n tails = (i : ℕ) → i < n → get_or tails i 0 % 64 ≡ place_of from (page_at i)

-- the first entry that is left of the page at node 1 is taken
pub record Moved (s ks : List ℕ) (n : ℕ) (tree tails keys' tails' tree' : List ℕ) : Type 0 where
  pub entry : Entry
  pub taken : Taken (left_of s ks tails) (left_of s ks tails') (get_or tree 1 0) entry
  pub merging : Merging s ks n keys' tails' tree'

-- it is taken from a merge of the pages ks
abbrev pub Advanced : (s ks : List ℕ) (m m' : Merge) → Type 0
Advanced s ks m m' = Moved s ks (length ks) m.tree m.tails m'.keys m'.tails m'.tree
