-- The steps of a split, and work (docs/RULES.md 6.7 to 6.10): "A step, by phase".
use Rattle.std.specs.Prelude.{Bool, true, false, not, ◌&&◌, List, [], ◌∷◌, ◌++◌, ℕ, zero, suc, ◌+◌, leb, ltb, eqb}
use Rattle.std.proofs.Math.Option.{Option, none, some}
use Rattle.lists.specs.Lists.{any, find, tally}
use Rattle.address.specs.Address.{buckets_at, point}
use Rattle.page.specs.declared.Entry.{Entry}
use Rattle.page.specs.Pair.{is}
use Rattle.model.specs.declared.Stop.{Stop}
use Rattle.model.specs.Index.{Job, idle, copying, clearing, Index, no_chain, entries_at, bucket, new_bucket}
use Rattle.model.specs.Index.{old_bucket, top_bit, set_job}
use Rattle.model.specs.Pages.{put, cut}
use Rattle.model.specs.Held.{wanted}

-- A step's next state, or why there is none.
pub data Step (S : Type 0) : Type 0 where
  next : S → Step S
  stopped : Stop → Step S

-- a change that may find no room
abbrev pub or_full : Option Index → Step Index
or_full (some y) = next y
or_full none = stopped Stop.NoRoom

-- ---- begin: "New bucket is max bucket + 1"

abbrev pub widen : Index → List ℕ → Index
widen x sp =
    record {
      size = x.size;
      fill = x.fill;
      number = x.number;
      max_bucket = suc x.max_bucket;
      spares = sp;
      job = copying;
      chains = x.chains ++ no_chain ∷ [];
    }

-- by whether the new bucket "needs a new point", and whether there is room for it; "spares[s+1] = spares[s]"
abbrev pub begin_in : (new_point room : Bool) → Index → Option Index
begin_in false room x = some (widen x x.spares)
begin_in true true x = some (widen x (x.spares ++ top_bit x ∷ []))
begin_in true false x = none

-- "if it needs a new point, (buckets in all at point s+1) + spares[s] + 1 must be at most N, else no room"
unfoldable pub begin : Index → Option Index
begin x =
    let s = point x.max_bucket in
    begin_in (ltb s (point (suc x.max_bucket))) (leb (buckets_at (suc s) + top_bit x + 1) x.size) x

-- ---- copying and clearing

-- an entry that "maps to the new bucket"
abbrev pub moves : Index → Entry → Bool
moves x e = eqb (bucket x e.pair) (new_bucket x)

-- and "has no copy there"
abbrev pub to_copy : Index → Entry → Bool
to_copy x e = moves x e && not (any (is e.pair) (entries_at x (new_bucket x)))

-- the copies still to make
abbrev pub copies_left : Index → ℕ
copies_left x = tally (to_copy x) (entries_at x (old_bucket x))

-- "copy, marked moved, .. placed as by insert; with none left, clear both flags and set cleanup on the old"
abbrev pub copy_in : Option Entry → Index → Step Index
copy_in (some e) x = or_full (put x (new_bucket x) (record { pair = e.pair; moved = true }))
copy_in none x = next (set_job x clearing)

-- "take away .., freeing an emptied overflow page as a removal does; with none left, clear the flag"
abbrev pub clear_in : Option Entry → Index → Step Index
clear_in (some e) x = next (cut e.pair (old_bucket x) x)
clear_in none x = next (set_job x idle)

-- of the old chain: the first entry to copy; the first entry that maps to the new bucket
abbrev pub step_in : Job → (wanted : Bool) → Index → Step Index
step_in idle true x = or_full (begin x)
step_in idle false x = stopped Stop.Idle
step_in copying w x = copy_in (find (to_copy x) (entries_at x (old_bucket x))) x
step_in clearing w x = clear_in (find (moves x) (entries_at x (old_bucket x))) x

unfoldable pub step : Index → Step Index
step x = step_in x.job (wanted x) x

-- ---- work: steps one after the other

-- What work gives: its steps, its stop, and the state that they left.
pub record Worked (S : Type 0) : Type 0 where
  pub steps : ℕ
  pub stop : Stop
  pub state : S

module _ {S : Type 0} (f : S → Step S) where
  -- the steps f, until the budget is spent, which is tested first, or a step stops
  abbrev pub iterate : (budget : ℕ) → S → Worked S
  iterate zero s = record { steps = 0; stop = Stop.Spent; state = s }
  iterate (suc n) s =
      elim (f s) [
        | next t ↦ (let w = iterate n t in record { steps = suc w.steps; stop = w.stop; state = w.state })
        | stopped r ↦ record { steps = 0; stop = r; state = s }
      ]
