-- The hash index as a value, without its bytes and with nothing in it that follows from something else (docs/RULES.md
-- 1, 3 and 4).
use Rattle.std.specs.Prelude.{List, [], ◌∷◌, ◌++◌, ℕ, get_or, set}
use Rattle.address.specs.Address.{bucket_of, split_from, point}
use Rattle.page.specs.declared.Pair.{Pair}
use Rattle.page.specs.declared.Entry.{Entry}

-- An overflow page: its overflow bit, which gives its block, and its entries, ascending.
pub record Page : Type 0 where
  pub bit : ℕ
  pub entries : List Entry

-- A bucket's chain: the bucket page's entries, ascending, and the overflow pages.
pub record Chain : Type 0 where
  pub first : List Entry
  pub more : List Page

-- The pending job: none, or a split that copies or clears.
pub data Job : Type 0 where
  idle copying clearing : Job

-- `number` is the store number; `spares` are spares[0..s]; `chains` has the chain of each bucket, from 0 to the max
-- bucket.
pub record Index : Type 0 where
  pub size : ℕ
  pub fill : ℕ
  pub number : ℕ
  pub max_bucket : ℕ
  pub spares : List ℕ
  pub job : Job
  pub chains : List Chain

abbrev pub on_pages : List Page → List Entry
on_pages [] = []
on_pages (g ∷ gs) = g.entries ++ on_pages gs

-- a chain's entries, page by page
abbrev pub entries_in : Chain → List Entry
entries_in c = c.first ++ on_pages c.more

abbrev pub no_chain : Chain
no_chain = record { first = []; more = [] }

abbrev pub chain : Index → ℕ → Chain
chain x b = get_or x.chains b no_chain

abbrev pub entries_at : Index → ℕ → List Entry
entries_at x b = entries_in (chain x b)

abbrev pub bucket : Index → Pair → ℕ
bucket x p = bucket_of x.max_bucket p.hash

-- the buckets of the job
abbrev pub new_bucket : Index → ℕ
new_bucket x = x.max_bucket

abbrev pub old_bucket : Index → ℕ
old_bucket x = split_from x.max_bucket

-- the overflow bits that are made, the bitmap's bit 0 among them: spares[s]
abbrev pub top_bit : Index → ℕ
top_bit x = get_or x.spares (point x.max_bucket) 0

abbrev pub set_chain : Index → List ℕ → ℕ → Chain → Index
set_chain x sp b c =
    record {
      size = x.size;
      fill = x.fill;
      number = x.number;
      max_bucket = x.max_bucket;
      spares = sp;
      job = x.job;
      chains = set x.chains b c;
    }

abbrev pub set_job : Index → Job → Index
set_job x j =
    record {
      size = x.size;
      fill = x.fill;
      number = x.number;
      max_bucket = x.max_bucket;
      spares = x.spares;
      job = j;
      chains = x.chains;
    }
