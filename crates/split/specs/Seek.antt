-- A search along entries from a place on, before which none passes the test; the positions from which a step may
-- search.
use Rattle.std.specs.Prelude.{◌≡◌, Bool, true, false, Option, List, ℕ, ◌+◌, ◌≤◌, ◌<◌, length, get_or, take, drop, MatchOption, IfSome}
use Rattle.std.proofs.Math.Option.{none, some}
use Rattle.lists.specs.Lists.{tally, find}
use Rattle.page.specs.declared.Pair.{Pair}
use Rattle.page.specs.declared.Entry.{Entry}
use Rattle.page.specs.Places.{place_of}
use Rattle.model.specs.Index.{Job, copying, clearing, Index, entries_at, old_bucket}
use Rattle.model.specs.Steps.{next, step}
use Rattle.chain.specs.declared.Found.{Found}
use Rattle.chain.specs.Search.{at_slot}
use Rattle.split.specs.declared.Mover.{Mover}
use Rattle.split.specs.declared.Position.{Position}
use Rattle.split.specs.Mover.{movable, copied}
use Rattle.split.specs.Spot.{SpotIn}

-- none of the first k entries passes
abbrev pub Before : (Entry → Bool) → List Entry → ℕ → Type 0
Before t es k = tally t (take k es) ≡ 0

-- none of those from the place k on passes
abbrev pub After : (Entry → Bool) → List Entry → ℕ → Type 0
After t es k = tally t (drop k es) ≡ 0

-- where they are fresh, none of them has a copy
abbrev pub Fresh : (fresh : Bool) → Index → List Entry → ℕ → Type 0
Fresh f x es k = f ≡ true → After (copied x) es k

-- e stands at the place k, before which none passes
pub record Stands (t : Entry → Bool) (es : List Entry) (e : Entry) (k : ℕ) : Type 0 where
  pub inside : k < length es
  pub here : get_or es k e ≡ e
  pub first : Before t es k

-- what a test that ensures `post` answers at the entries from the place k on is what t says
pub record AnswersFrom (post : Entry → Bool → Type 0) (t : Entry → Bool) (es : List Entry) (k : ℕ) : Type 0 where
  pub at : (i : ℕ) (d : Entry) (r : Bool) → k ≤ i → i < length es → post (get_or es i d) r → r ≡ t (get_or es i d)

-- the first entry that passes, and its place
abbrev pub Seeks : (Entry → Bool) → List Entry → Option Mover → Type 0
Seeks t es r = MatchOption r (find t es ≡ none) (λ v. (find t es ≡ some v.entry) × Stands t es v.entry v.place)

-- its place, counted from k entries before
abbrev pub shifted : ℕ → Mover → Mover
shifted k v = record { entry = v.entry; place = k + v.place; block = v.block; slot = v.slot }

-- its block and slot are where f finds its pair
abbrev pub Located : (Pair → Option Found) → Option Mover → Type 0
Located f r = IfSome r (λ v. f v.entry.pair ≡ at_slot v.block v.slot)

-- where a pair is found that stands among the entries of block b
abbrev pub found_on : (b : ℕ) → List Entry → Pair → Option Found
found_on b es p = at_slot b (place_of p es)

-- the job whose steps copy; clear
abbrev pub job_of : (copying : Bool) → Job
job_of true = copying
job_of false = clearing

-- a search from the place k on by a test that ensures `post`: where the entries before it are not left to move, and the
-- test tells which of the others are, it finds the first one that is left, where f finds its pair
abbrev pub Searches : (post : Entry → Bool → Type 0) → Index → List Entry → (Pair → Option Found) → ℕ → Option Mover → Type 0
Searches post x es f k r =
    (c : Bool) → Before (movable c x) es k → AnswersFrom post (movable c x) es k
    → (Seeks (movable c x) es r) × (Located f r)

-- none of the entries of the old chain before the position is left for the job to move; where it is fresh, none of the
-- others has a copy; and where its page is known, it is one of the old chain
pub record From (x : Index) (p : Position) : Type 0 where
  pub none : (c : Bool) → x.job ≡ job_of c → Before (movable c x) (entries_at x (old_bucket x)) p.place
  pub fresh : x.job ≡ copying → Fresh p.fresh x (entries_at x (old_bucket x)) p.place
  pub page : IfSome p.page (λ g. SpotIn x g p.place)

-- the step after this one may search from the position p
abbrev pub Leads : Index → Position → Type 0
Leads x p = (y : Index) → step x ≡ next y → From y p
