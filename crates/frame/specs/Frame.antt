-- The pages of a chain by their places, and the blocks that each change of an index may alter: at most eight.
use Rattle.std.specs.Prelude.{◌≢◌, Bool, true, false, cond, not, ◌&&◌, ◌||◌, List, [], ◌∷◌, ◌++◌, map, ℕ, zero, suc, ◌-◌, eqb, length, get_or}
use Rattle.std.proofs.Math.Option.{Option, none, some}
use Rattle.lists.specs.Lists.{any, find, Each}
use Rattle.address.specs.Address.{split_from, last_split, point, bucket_block, bit_block}
use Rattle.page.specs.declared.Pair.{Pair}
use Rattle.page.specs.declared.Entry.{Entry}
use Rattle.page.specs.Pair.{is}
use Rattle.page.specs.Entries.{encode_page}
use Rattle.model.specs.Index.{Page, Chain, Job, idle, copying, clearing, Index, chain, entries_at, bucket, new_bucket}
use Rattle.model.specs.Index.{old_bucket, top_bit}
use Rattle.model.specs.Pages.{has_room, page_room, chain_room, thin, in_use, free_bit}
use Rattle.model.specs.Steps.{moves, to_copy}
use Rattle.model.specs.Squeeze.{final, earlier, shortened}
use Rattle.image.specs.Layout.{paged, flags_of}
use Rattle.store.specs.Flags.{no_link}

-- k is none of the blocks
abbrev pub Apart : ℕ → List ℕ → Type 0
Apart k js = Each (λ (j : ℕ). k ≢ j) js

-- ---- pages by bucket and place: the bucket page is at place 0

-- the block of overflow bit n; the bitmap's
abbrev pub block_of_bit : Index → ℕ → ℕ
block_of_bit x n = bit_block x.spares (point x.max_bucket) n

abbrev pub map_block : Index → ℕ
map_block x = block_of_bit x 0

abbrev pub blocks_after : Index → List Page → List ℕ
blocks_after x gs = map (λ (g : Page). block_of_bit x g.bit) gs

-- the blocks of a chain c of bucket b, and that of a page, none past the chain's end
abbrev pub chain_blocks : Index → (b : ℕ) → Chain → List ℕ
chain_blocks x b c = bucket_block x.spares b ∷ blocks_after x c.more

abbrev pub place_block : Index → (b : ℕ) → Chain → (place : ℕ) → ℕ
place_block x b c i = get_or (chain_blocks x b c) i no_link

abbrev pub page_block : Index → (b place : ℕ) → ℕ
page_block x b i = place_block x b (chain x b) i

abbrev pub entries_after : List Page → List (List Entry)
entries_after gs = map (λ (g : Page). g.entries) gs

abbrev pub place_entries : Chain → (place : ℕ) → List Entry
place_entries c i = get_or (c.first ∷ entries_after c.more) i []

abbrev pub page_entries : Index → (b place : ℕ) → List Entry
page_entries x b i = place_entries (chain x b) i

-- a page's links are the blocks of its neighbours, but a bucket page's previous field holds its last split
abbrev pub prev_in : (last : ℕ) → (blocks : List ℕ) → (place : ℕ) → ℕ
prev_in last js zero = last
prev_in last js (suc i) = get_or js i no_link

abbrev pub flags_for : (own place : ℕ) → ℕ
flags_for own zero = own
flags_for own (suc i) = 1

-- the page at a place of bucket b's chain, of its entries and next field
unfoldable pub page_with : Index → (b : ℕ) → (blocks : List ℕ) → (place : ℕ) → List Entry → (next : ℕ) → List ℕ
page_with x b js i es next =
    paged (encode_page es []) (prev_in (last_split x.max_bucket b) js i) next b (flags_for (flags_of x b) i)

abbrev pub place_image : Index → (b : ℕ) → Chain → (place : ℕ) → List ℕ
place_image x b c i = page_with x b (chain_blocks x b c) i (place_entries c i) (place_block x b c (suc i))

abbrev pub page_image : Index → (b place : ℕ) → List ℕ
page_image x b i = place_image x b (chain x b) i

-- ---- places

module _ {A : Type 0} where
  -- how many stand before the first that passes the test
  abbrev pub first_place : (A → Bool) → List A → ℕ
  first_place t [] = 0
  first_place t (a ∷ rest) = cond (t a) 0 (suc (first_place t rest))

-- the first page with room; the last page
abbrev pub room_place : Chain → ℕ
room_place c = cond (has_room c.first) 0 (suc (first_place page_room c.more))

abbrev pub last_place : Chain → ℕ
last_place c = length c.more

-- the block of the first page before the last with room
abbrev pub early_block : Index → (b : ℕ) → ℕ
early_block x b = page_block x b (room_place (earlier (chain x b)))

-- the page that has the pair, first of the overflow pages alone
abbrev pub on_page : Pair → Page → Bool
on_page p g = any (is p) g.entries

abbrev pub more_place : Pair → List Page → ℕ
more_place p gs = first_place (on_page p) gs

abbrev pub pair_place : Pair → Chain → ℕ
pair_place p c = cond (any (is p) c.first) 0 (suc (more_place p c.more))

-- whether it is an overflow page, and is left empty
abbrev pub frees : Pair → List Page → Bool
frees p gs = any (λ (g : Page). on_page p g && not (in_use (thin p g))) gs

-- ---- the blocks that a change may alter; the meta block is 0

-- an entry into bucket b's chain: into a page with room; into a free page; into the next block past the made ones
abbrev pub put_alters : (room : Bool) → (free : Option ℕ) → Index → ℕ → List ℕ
put_alters true f x b = 0 ∷ page_block x b (room_place (chain x b)) ∷ []
put_alters false (some n) x b = 0 ∷ map_block x ∷ page_block x b (last_place (chain x b)) ∷ block_of_bit x n ∷ []
put_alters false none x b = 0 ∷ page_block x b (last_place (chain x b)) ∷ block_of_bit x (top_bit x) ∷ []

abbrev pub put_blocks : Index → ℕ → List ℕ
put_blocks x b = put_alters (chain_room (chain x b)) (free_bit x) x b

-- a pair out of bucket b's chain: its page; where that is left empty, with its neighbours
abbrev pub pair_blocks : (empty : Bool) → Index → ℕ → Chain → Pair → List ℕ
pair_blocks empty x b c p =
    let i = more_place p c.more in
    cond empty (place_block x b c i ∷ place_block x b c (suc i) ∷ place_block x b c (suc (suc i)) ∷ [])
    (place_block x b c (pair_place p c) ∷ [])

abbrev pub frees_at : Index → ℕ → Pair → Bool
frees_at x b p = frees p (chain x b).more

abbrev pub map_blocks : (empty : Bool) → Index → List ℕ
map_blocks empty x = cond empty (map_block x ∷ []) []

abbrev pub cut_blocks : Index → ℕ → Pair → List ℕ
cut_blocks x b p = 0 ∷ map_blocks (frees_at x b p) x ++ pair_blocks (frees_at x b p) x b (chain x b) p

-- out of both chains of a job
abbrev pub cuts_blocks : Index → Pair → List ℕ
cuts_blocks x p =
    let o = old_bucket x in
    let n = new_bucket x in
    0 ∷ map_blocks (frees_at x o p || frees_at x n p) x
    ++ (pair_blocks (frees_at x o p) x o (chain x o) p ++ pair_blocks (frees_at x n p) x n (chain x n) p)

-- the end of copying; the end of clearing; a begin
abbrev pub copied_blocks : Index → List ℕ
copied_blocks x = 0 ∷ bucket_block x.spares (new_bucket x) ∷ bucket_block x.spares (old_bucket x) ∷ []

abbrev pub cleared_blocks : Index → List ℕ
cleared_blocks x = 0 ∷ bucket_block x.spares (old_bucket x) ∷ []

abbrev pub begin_blocks : Index → List ℕ
begin_blocks x =
    let m = suc x.max_bucket in 0 ∷ bucket_block x.spares m ∷ bucket_block x.spares (split_from m) ∷ []

-- a squeeze's step of bucket b, by what it leaves of the last page: with nothing left meta, the bitmap and the page
-- before too
abbrev pub squeeze_alters : (left : List Page) → Index → ℕ → List ℕ
squeeze_alters (g ∷ gs) x b = early_block x b ∷ page_block x b (last_place (chain x b)) ∷ []
squeeze_alters [] x b =
    let i = last_place (chain x b) in
    0 ∷ map_block x ∷ early_block x b ∷ page_block x b (i - 1) ∷ page_block x b i ∷ []

abbrev pub squeeze_blocks : Index → (bucket : ℕ) → List ℕ
squeeze_blocks x b = squeeze_alters (shortened (final (chain x b).more)) x b

-- ---- of whole calls and steps

abbrev pub remove_alters : Job → (populated : Bool) → Index → Pair → List ℕ
remove_alters idle new x p = cut_blocks x (bucket x p) p
remove_alters clearing new x p = cut_blocks x (bucket x p) p
remove_alters copying true x p = cuts_blocks x p
remove_alters copying false x p = cut_blocks x (bucket x p) p

abbrev pub remove_blocks : Index → Pair → List ℕ
remove_blocks x p = remove_alters x.job (eqb (bucket x p) (new_bucket x)) x p

abbrev pub copy_blocks : (found : Option Entry) → Index → List ℕ
copy_blocks (some e) x = put_blocks x (new_bucket x)
copy_blocks none x = copied_blocks x

abbrev pub clear_blocks : (found : Option Entry) → Index → List ℕ
clear_blocks (some e) x = cut_blocks x (old_bucket x) e.pair
clear_blocks none x = cleared_blocks x

abbrev pub step_alters : Job → Index → List ℕ
step_alters idle x = begin_blocks x
step_alters copying x = copy_blocks (find (to_copy x) (entries_at x (old_bucket x))) x
step_alters clearing x = clear_blocks (find (moves x) (entries_at x (old_bucket x))) x

abbrev pub step_blocks : Index → List ℕ
step_blocks x = step_alters x.job x
