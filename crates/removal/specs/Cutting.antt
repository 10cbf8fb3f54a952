-- A draft that shows an index while pairs are cut out of it.
use Rattle.std.specs.Prelude.{◌≡◌, ◌≢◌, List, [], ℕ, suc, ◌+◌, ◌≤◌, ◌<◌}
use Rattle.lists.specs.Lists.{tally}
use Rattle.lists.specs.Block.{block}
use Rattle.address.specs.Address.{last_split}
use Rattle.page.specs.declared.Pair.{Pair}
use Rattle.page.specs.Pair.{is}
use Rattle.page.specs.Entries.{encode_page}
use Rattle.store.specs.declared.Change.{Change}
use Rattle.store.specs.Store.{covered}
use Rattle.model.specs.Index.{Index, chain, entries_at}
use Rattle.model.specs.WellFormed.{Laid}
use Rattle.image.specs.declared.Meta.{Meta}
use Rattle.image.specs.Layout.{flags_of, encode_block}
use Rattle.image.specs.Decode.{decode}
use Rattle.frame.specs.Frame.{map_block, chain_blocks, page_block, page_entries, prev_in, flags_for}
use Rattle.chain.specs.Search.{at_slot}
use Rattle.view.specs.Reads.{Reads}
use Rattle.view.specs.Places.{find_at}
use Rattle.plan.specs.Shape.{Shaped}
use Rattle.plan.specs.Sketch.{Sketch}

-- the bodies of the draft d of the store s are those of x; the meta block and the bitmap are still the store's
pub record Shows (s d : List ℕ) (x : Index) : Type 0 where
  pub pages : (k : ℕ) → k < x.size → k ≢ 0 → k ≢ map_block x → covered (block d k) ≡ encode_block x k
  pub meta : block d 0 ≡ block s 0
  pub map : block d (map_block x) ≡ block s (map_block x)

-- the block l has the shape of the page at place i of bucket b's chain
abbrev pub ShapedAt : Index → (b place : ℕ) → List ℕ → Type 0
ShapedAt x b i l =
    Shaped l (encode_page (page_entries x b i) []) (prev_in (last_split x.max_bucket b) (chain_blocks x b (chain x b)) i)
    (page_block x b (suc i)) b (flags_for (flags_of x b) i)

-- a change of at most n blocks whose draft shows x
pub record Sketches (s : List ℕ) (c : Change) (images : List ℕ) (n : ℕ) (x : Index) : Type 0 where
  pub d : List ℕ
  pub ks : List ℕ
  pub sketch : Sketch s c images d n ks
  pub shows : Shows s d x

-- x is laid out as w is, with the same chain of bucket b
pub record Like (w : Index) (b : ℕ) (x : Index) : Type 0 where
  pub laid : Laid x
  pub size : x.size ≡ w.size
  pub spares : x.spares ≡ w.spares
  pub max : x.max_bucket ≡ w.max_bucket
  pub job : x.job ≡ w.job
  pub chain : chain x b ≡ chain w b

-- the pair p can be cut out of bucket b's chain, if it stands there, with at most three blocks more
pub record Findable (s : List ℕ) (m : Meta) (c : Change) (images : List ℕ) (n b : ℕ) (p : Pair) (x : Index)
    : Type 0 where
  pub reads : Reads s m
  pub made : b ≤ m.max
  pub like : Like (decode s) b x
  pub once : tally (is p) (entries_at x b) ≤ 1
  pub few : n + 3 ≤ 8
  pub sketches : Sketches s c images n x

-- it stands in block k at slot `slot`
pub record Cuttable (s : List ℕ) (m : Meta) (c : Change) (images : List ℕ) (k slot n b : ℕ) (p : Pair) (x : Index)
    : Type 0 where
  pub findable : Findable s m c images n b p x
  pub found : find_at x b p ≡ at_slot k slot
