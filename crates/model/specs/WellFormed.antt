-- The well-formed indexes: the sound-store rules (docs/RULES.md 5; rule n is 5.n), said of the index as a value. What
-- they say of links, flags, checks and derived fields has no counterpart here, since nothing of that is in the value.
use Rattle.std.specs.Prelude.{◌≡◌, ◌≢◌, true, false, not, ◌&&◌, List, ℕ, suc, ◌+◌, ◌^◌, ◌≤◌, ◌<◌, eqb, length}
use Rattle.lists.specs.Lists.{tally, Each}
use Rattle.address.specs.Address.{point}
use Rattle.address.specs.Role.{SparesOk}
use Rattle.page.specs.declared.Pair.{Pair}
use Rattle.page.specs.declared.Entry.{Entry}
use Rattle.page.specs.Pair.{is, bad_pair, PairFits, ascending}
use Rattle.model.specs.Index.{Page, Chain, Job, idle, copying, clearing, Index, chain, entries_at, bucket}
use Rattle.model.specs.Index.{new_bucket, old_bucket, top_bit}
use Rattle.model.specs.Pages.{bits_used}
use Rattle.address.specs.Limits.{max_blocks}

-- ---- pages

-- "No entry has offset 0 or reading block 4294967295", and the fields have their widths
pub record EntryOk (e : Entry) : Type 0 where
  pub good : bad_pair e.pair ≡ false
  pub fits : PairFits e.pair

-- "up to 40 entries .. strictly ascending by hash, then block, then offset"
pub record PageOk (es : List Entry) : Type 0 where
  pub full : length es ≤ 40
  pub order : ascending (λ (e : Entry). e.pair) es ≡ true
  pub numbers : Each EntryOk es

-- an overflow page: "none is empty"
pub record MoreOk (g : Page) : Type 0 where
  pub used : 1 ≤ length g.entries
  pub page : PageOk g.entries

pub record ChainOk (c : Chain) : Type 0 where
  pub first : PageOk c.first
  pub more : Each MoreOk c.more

-- ---- the layout

-- how often an overflow bit stands in a chain
abbrev pub uses : ℕ → Index → ℕ
uses n x = tally (eqb n) (bits_used x)

-- rules 1 to 5, but for pairs that stand twice
pub record Laid (x : Index) : Type 0 where
  -- the store number has its width; rule 1: N; 2: fill, "max bucket at least 1", the spares, "made blocks at most N"
  pub number : x.number < 2 ^ 32
  pub size : x.size ≤ max_blocks
  pub fill_low : 1 ≤ x.fill
  pub fill_high : x.fill ≤ 40
  pub two : 1 ≤ x.max_bucket
  pub spares : SparesOk x.spares (point x.max_bucket) x.size
  -- rule 3: each bucket has its page
  pub whole : length x.chains ≡ suc x.max_bucket
  -- rule 4: "each overflow page stands in one chain", and is made and not the bitmap
  pub once : (n : ℕ) → uses n x ≤ 1
  pub made : (n : ℕ) → 1 ≤ uses n x → (1 ≤ n) × (n < top_bit x)
  -- rules 4 and 5: "none is empty", "pages as above"
  pub pages : (b : ℕ) → ChainOk (chain x b)

-- ---- where pairs stand

-- how often a pair stands in the chain of bucket b, unmoved and moved
abbrev pub unmoved_at : Index → Pair → ℕ → ℕ
unmoved_at x p b = tally (λ e. is p e && not e.moved) (entries_at x b)

abbrev pub moved_at : Index → Pair → ℕ → ℕ
moved_at x p b = tally (λ e. is p e && e.moved) (entries_at x b)

-- where a pair of bucket h may stand besides: "the old bucket of a job may hold entries of the new one"
abbrev pub Strays : Job → (new old h b : ℕ) → Type 0
Strays idle n o h b = ⊥
Strays copying n o h b = (h ≡ n) × (b ≡ o)
Strays clearing n o h b = (h ≡ n) × (b ≡ o)

-- one pair of bucket h, u b times unmoved and m b times moved in the chain of bucket b
pub record Placed (j : Job) (new old h : ℕ) (u m : ℕ → ℕ) : Type 0 where
  -- rule 5: "no pair twice in a chain"
  pub once : (b : ℕ) → u b + m b ≤ 1
  -- rule 7: "each entry stands in its bucket", but ..
  pub home : (b : ℕ) → 1 ≤ u b + m b → b ≢ h → Strays j new old h b
  -- "while copying, each moved entry of the new bucket stands in the old too, and no unmoved one does"
  pub copied : j ≡ copying → m new ≤ u old + m old
  pub fresh : j ≡ copying → u new + (u old + m old) ≤ 1

abbrev pub PlacedIn : Index → Pair → Type 0
PlacedIn x p = Placed x.job (new_bucket x) (old_bucket x) (bucket x p) (unmoved_at x p) (moved_at x p)

pub record WF (x : Index) : Type 0 where
  pub laid : Laid x
  pub placed : (p : Pair) → PlacedIn x p
