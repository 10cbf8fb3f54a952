-- Where code finds things in an index: a pair, the page that an insert takes, the sources of a hash code, a held pair.
use Rattle.std.specs.Prelude.{◌≡◌, Bool, true, false, cond, List, [], ℕ, eqb, length, take, Option, None}
use Rattle.std.specs.Option.{option_or}
use Rattle.lists.specs.Lists.{any}
use Rattle.address.specs.Address.{bucket_of}
use Rattle.page.specs.declared.Pair.{Pair}
use Rattle.page.specs.Pair.{is}
use Rattle.page.specs.Places.{place_of}
use Rattle.model.specs.Index.{Job, idle, copying, clearing, Index, chain, entries_at, new_bucket, old_bucket}
use Rattle.model.specs.Pages.{chain_room}
use Rattle.frame.specs.Frame.{chain_blocks, page_block, page_entries, pair_place, room_place, last_place}
use Rattle.chain.specs.declared.Found.{Found}
use Rattle.chain.specs.declared.Room.{Room}
use Rattle.chain.specs.Search.{at_slot}
use Rattle.view.specs.declared.Sources.{Sources}

-- the block and slot of a pair in the chain of bucket b
unfoldable pub find_at : Index → (b : ℕ) → Pair → Option Found
find_at x b p =
    let i = pair_place p (chain x b) in
    cond (any (is p) (entries_at x b)) (at_slot (page_block x b i) (place_of p (page_entries x b i))) None

-- the first page with room in the chain of bucket b, else its last page
unfoldable pub room_at : Index → (b : ℕ) → Room
room_at x b =
    let c = chain x b in
    cond (chain_room c) (Room.Page (page_block x b (room_place c))) (Room.Full (page_block x b (last_place c)))

-- the buckets among whose entries the pairs of a hash code are held
abbrev pub sources_by : Job → (old home : ℕ) → (populated : Bool) → Sources
sources_by idle old home new = Sources.Home home
sources_by clearing old home new = Sources.Home home
sources_by copying old home true = Sources.Both home old
sources_by copying old home false = Sources.Home home

unfoldable pub sources_of : Index → (hash : ℕ) → Sources
sources_of x h = let b = bucket_of x.max_bucket h in sources_by x.job (old_bucket x) b (eqb b (new_bucket x))

-- the blocks of the chains of the sources: of the own bucket's chain, and of the old one's
abbrev pub own_blocks : Index → Sources → List ℕ
own_blocks x (Sources.Home b) = chain_blocks x b (chain x b)
own_blocks x (Sources.Both new old) = chain_blocks x new (chain x new)

abbrev pub old_blocks : Index → Sources → List ℕ
old_blocks x (Sources.Home b) = []
old_blocks x (Sources.Both new old) = chain_blocks x old (chain x old)

abbrev pub is_both : Sources → Bool
is_both (Sources.Home b) = false
is_both (Sources.Both new old) = true

-- the first n of `own` and the first k of `old` are the blocks of the sources of a hash code
pub record Sourced (x : Index) (hash : ℕ) (own : List ℕ) (n : ℕ) (old : List ℕ) (k : ℕ) (fresh : Bool) : Type 0 where
  pub own-blocks : take n own ≡ own_blocks x (sources_of x hash)
  pub own-count : n ≡ length (take n own)
  pub old-blocks : take k old ≡ old_blocks x (sources_of x hash)
  pub old-count : k ≡ length (take k old)
  pub both : fresh ≡ is_both (sources_of x hash)

-- what stands in the new chain and not in the old one is unmoved
abbrev pub held_by : Index → Pair → Sources → Option Found
held_by x p (Sources.Home b) = find_at x b p
held_by x p (Sources.Both new old) = option_or (find_at x old p) (find_at x new p)

-- the block and slot of the held entry of a pair
unfoldable pub held_at : Index → Pair → Option Found
held_at x p = held_by x p (sources_of x p.hash)
