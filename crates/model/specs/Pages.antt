-- An entry into a chain and out of it; the page that an insert takes (docs/RULES.md 6.3 and 6.4).
use Rattle.std.specs.Prelude.{Bool, true, false, cond, not, ◌&&◌, ◌||◌, List, [], ◌∷◌, ◌++◌, map, ℕ, suc, ltb, eqb, length, get_or, set}
use Rattle.std.proofs.Math.Option
use Rattle.std.proofs.Math.Option.{Option, none, some}
use Rattle.lists.specs.Lists.{any, keep, find, bind, up_from}
use Rattle.address.specs.Address.{point, made}
use Rattle.page.specs.declared.Pair.{Pair}
use Rattle.page.specs.declared.Entry.{Entry}
use Rattle.page.specs.Pair.{is, enter}
use Rattle.model.specs.Index.{Page, Chain, Index, chain, top_bit, set_chain}

-- ---- into a page

-- "fewer than 40 entries"
abbrev pub has_room : List Entry → Bool
has_room es = ltb (length es) 40

abbrev pub page_room : Page → Bool
page_room g = has_room g.entries

abbrev pub chain_room : Chain → Bool
chain_room c = has_room c.first || any page_room c.more

abbrev pub enter_entry : Entry → List Entry → List Entry
enter_entry = enter (λ (e : Entry). e.pair)

abbrev pub add_more : Entry → List Page → List Page
add_more e [] = []
add_more e (g ∷ gs) =
    cond (page_room g) (record { bit = g.bit; entries = enter_entry e g.entries } ∷ gs) (g ∷ add_more e gs)

-- "into the first page of the bucket's chain with fewer than 40 entries"
abbrev pub add_entry : Entry → Chain → Chain
add_entry e c =
    cond (has_room c.first) (record { first = enter_entry e c.first; more = c.more })
    (record { first = c.first; more = add_more e c.more })

-- into a new page "at the chain's end"
abbrev pub add_page : ℕ → Entry → Chain → Chain
add_page n e c = record { first = c.first; more = c.more ++ record { bit = n; entries = e ∷ [] } ∷ [] }

-- ---- the page that is taken

abbrev pub bits_of : Chain → List ℕ
bits_of c = map (λ (g : Page). g.bit) c.more

-- the overflow bits that stand in chains
abbrev pub bits_used : Index → List ℕ
bits_used x = bind x.chains bits_of

-- "free to use again": overflow bit n of `top` that are made, but the bitmap's own bit 0, and not used
abbrev pub free_of : (top : ℕ) → (used : Bool) → ℕ → Bool
free_of top used n = ltb 0 n && (ltb n top && not used)

-- in an index, where those are used that stand in chains
abbrev pub is_free : Index → ℕ → Bool
is_free x n = free_of (top_bit x) (any (eqb n) (bits_used x)) n

-- "the lowest 0 bit"
unfoldable pub free_bit : Index → Option ℕ
free_bit x = find (is_free x) (up_from 0 (top_bit x))

-- "first free is the lowest 0 bit or, without one, spares[s]"
unfoldable pub first_free : Index → ℕ
first_free x = Option.get_or (free_bit x) (top_bit x)

-- A page to take: its overflow bit, and the spares afterwards.
pub record Taken : Type 0 where
  pub bit : ℕ
  pub spares : List ℕ

abbrev pub take_from : Option ℕ → (room : Bool) → List ℕ → ℕ → Option Taken
take_from (some n) room sp s = some (record { bit = n; spares = sp })
take_from none true sp s = some (record { bit = get_or sp s 0; spares = set sp s (suc (get_or sp s 0)) })
take_from none false sp s = none

-- "the lowest 0 bit, else the next block past the made ones, if its number is below N (spares[s] grows by 1)"
unfoldable pub take_page : Index → Option Taken
take_page x = let s = point x.max_bucket in take_from (free_bit x) (ltb (made x.spares s) x.size) x.spares s

abbrev pub put_in : (room : Bool) → Option Taken → Index → ℕ → Entry → Option Index
put_in true t x b e = some (set_chain x x.spares b (add_entry e (chain x b)))
put_in false none x b e = none
put_in false (some t) x b e = some (set_chain x t.spares b (add_page t.bit e (chain x b)))

-- the entry into bucket b's chain: the first page with room, else the page to take, else no room
unfoldable pub put : Index → ℕ → Entry → Option Index
put x b e = put_in (chain_room (chain x b)) (take_page x) x b e

-- ---- out of a chain

abbrev pub thin_entries : Pair → List Entry → List Entry
thin_entries p = keep (λ e. not (is p e))

abbrev pub thin : Pair → Page → Page
thin p g = record { bit = g.bit; entries = thin_entries p g.entries }

abbrev pub in_use : Page → Bool
in_use g = ltb 0 (length g.entries)

-- the chain without the pair; "An overflow page left empty is unlinked, made unused and its bit set to 0"
abbrev pub without : Pair → Chain → Chain
without p c = record { first = thin_entries p c.first; more = keep in_use (map (thin p) c.more) }

unfoldable pub cut : Pair → ℕ → Index → Index
cut p b x = set_chain x x.spares b (without p (chain x b))
