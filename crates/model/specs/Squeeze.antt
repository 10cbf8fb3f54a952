-- Squeezing a bucket (docs/RULES.md 6.13): a step, the tests of the bucket, the steps of a call.
use Rattle.std.specs.Prelude.{Bool, true, false, cond, ◌||◌, List, [], ◌∷◌, ◌++◌, ℕ, suc, ◌+◌, ◌/◌, eqb, leb, length}
use Rattle.std.proofs.Math.Option.{Option, none, some}
use Rattle.lists.specs.Lists.{keep}
use Rattle.page.specs.declared.Entry.{Entry}
use Rattle.model.specs.declared.Refusal.{Refusal}
use Rattle.model.specs.declared.Stop.{Stop}
use Rattle.model.specs.Index.{Page, Chain, Job, idle, copying, clearing, Index, chain, new_bucket, old_bucket}
use Rattle.model.specs.Index.{set_chain}
use Rattle.model.specs.Pages.{chain_room, add_entry, in_use}
use Rattle.model.specs.Steps.{Step, next, stopped, Worked, iterate}

module _ {A : Type 0} where
  -- all but the last
  abbrev pub init : List A → List A
  init [] = []
  init (a ∷ []) = []
  init (a ∷ b ∷ rest) = a ∷ init (b ∷ rest)

  -- the last
  abbrev pub final : List A → Option A
  final [] = none
  final (a ∷ []) = some a
  final (a ∷ b ∷ rest) = final (b ∷ rest)

-- ---- one chain

-- the pages before the chain's last one, where that is an overflow page
abbrev pub earlier : Chain → Chain
earlier c = record { first = c.first; more = init c.more }

-- by the last overflow page, and whether an earlier page has room: a chain of one page has no earlier one
abbrev pub mover_in : Option Page → (room : Bool) → Option Entry
mover_in none room = none
mover_in (some g) false = none
mover_in (some g) true = final g.entries

-- "the last entry of the chain's last page", where an earlier page has room
unfoldable pub mover : Chain → Option Entry
mover c = mover_in (final c.more) (chain_room (earlier c))

-- the last page without its last entry; "a page left empty is freed"
abbrev pub shortened : Option Page → List Page
shortened none = []
shortened (some g) = keep in_use (record { bit = g.bit; entries = init g.entries } ∷ [])

-- the entry, with its flags, "to the first earlier page with room"
abbrev pub squeezed : Entry → Chain → Chain
squeezed e c =
    let d = add_entry e (earlier c) in
    record { first = d.first; more = d.more ++ shortened (final c.more) }

-- ---- steps

-- the index with this entry of the bucket's chain moved
abbrev pub moved_to : Index → (bucket : ℕ) → Entry → Index
moved_to x b e = set_chain x x.spares b (squeezed e (chain x b))

-- "9 when no earlier page has room"
abbrev pub squeeze_in : Option Entry → (bucket : ℕ) → Index → Step Index
squeeze_in (some e) b x = next (moved_to x b e)
squeeze_in none b x = stopped Stop.Idle

unfoldable pub squeeze_step : (bucket : ℕ) → Index → Step Index
squeeze_step b x = squeeze_in (mover (chain x b)) b x

unfoldable pub squeeze : (bucket budget : ℕ) → Index → Worked Index
squeeze b = iterate (squeeze_step b)

-- ---- the tests after 4

-- "a bucket of a pending job": both of its buckets
abbrev pub busy_in : Job → Index → (bucket : ℕ) → Bool
busy_in idle x b = false
busy_in copying x b = eqb b (old_bucket x) || eqb b (new_bucket x)
busy_in clearing x b = eqb b (old_bucket x) || eqb b (new_bucket x)

unfoldable pub is_busy : Index → (bucket : ℕ) → Bool
is_busy x b = busy_in x.job x b

-- "After 4, a bucket above max bucket gets 2, then a bucket of a pending job 11, busy"
abbrev pub bucket_in : (in_range busy : Bool) → Option Refusal
bucket_in false busy = some Refusal.Number
bucket_in true true = some Refusal.Busy
bucket_in true false = none

unfoldable pub bucket_test : Index → (bucket : ℕ) → Option Refusal
bucket_test x b = bucket_in (leb b x.max_bucket) (is_busy x b)

-- ---- what a squeezed chain has

-- "n / 40 pages, rounded up, or one if n is 0"
abbrev pub pages_for : (entries : ℕ) → ℕ
pages_for n = cond (eqb n 0) 1 ((n + 39) / 40)

abbrev pub pages_of : Chain → ℕ
pages_of c = suc (length c.more)
