-- DEMAND 3 WITH POWER CUTS: what may happen to a store and its journal, and which calls it counts as. docs/RULES.md
-- 11.7: "Demands 2 and 3 read the recovered store. .. A change that was cut counts in demand 3, as accepted and as a
-- step, exactly when the recovered store is the one after it." So what was cut counts as calls that ran whole, or as
-- none: Machine, History and Demand of crate `model` stay as they are.
use Rattle.std.specs.Prelude.{◌≡◌, Bool, true, false, cond, List, [], ◌∷◌, ◌++◌, ℕ, suc}
use Rattle.model.specs.Steps.{next}
use Rattle.model.specs.Machine.{Call, formatting, inserting, removing, looking, working, squeezing, asking, CallFits}
use Rattle.model.specs.Machine.{Kind, stepping, accepted}
use Rattle.outcomes.specs.Outcomes.{run_store, step_store}
use Rattle.journal.specs.Journal.{Disk, equal, head_wiped, wipe, run, recover, recovery_stores}
use Rattle.journal.specs.Altered.{change_stores}
use Rattle.journal.specs.Cut.{Cut, Ready}
use Rattle.cuts.specs.Journalled.{run_disk}

-- the calls of one change: an insert, a removal
abbrev pub OneChange : Call → Type 0
OneChange (formatting o) = ⊥
OneChange (inserting p) = Unit {0}
OneChange (removing p) = Unit {0}
OneChange (looking h out) = ⊥
OneChange (working budget) = ⊥
OneChange (squeezing b budget) = ⊥
OneChange asking = ⊥

-- a call that is no accepted format
abbrev pub Kept : Call → Disk → Type 0
Kept (formatting o) d = accepted (run_disk (formatting o) d).reply ≡ false
Kept (inserting p) d = Unit {0}
Kept (removing p) d = Unit {0}
Kept (looking h out) d = Unit {0}
Kept (working budget) d = Unit {0}
Kept (squeezing b budget) d = Unit {0}
Kept asking d = Unit {0}

-- the store that recovery will leave
abbrev pub recovered : Disk → List ℕ
recovered d = (recover d).store

-- whether a change to t, that was cut and left e, counts: "exactly when the recovered store is the one after it"
abbrev pub landed : (t : List ℕ) → (e : Disk) → Bool
landed t e = equal (recovered e) t

-- what a cut step counts as, after i whole ones
abbrev pub steps_done : (landed : Bool) → (i : ℕ) → ℕ
steps_done true i = suc i
steps_done false i = i

-- What happens to a store with its journal, the calls that it counts as, and what it leaves. Not among these is what
-- ends the promise: a format that is cut, or accepted with the head not wiped, and a wipe of a head that is not wiped.
pub data Goes : Disk → (counts : List Call) → Disk → Type 0 where
  -- a call that ran whole, with the head wiped
  ran : {d : Disk} (c : Call) → CallFits c → Ready d → Goes d (c ∷ []) (run_disk c d).state
  -- one made with the head not wiped: a lookup or standing reads the bytes as they lie, all others are refused
  waited : {d : Disk} (c : Call) → head_wiped d.journal ≡ false → Kept c d → Goes d [] (run_disk c d).state
  -- an insert or a removal that was cut
  cut : {d e : Disk} {n : ℕ} (c : Call) → CallFits c → OneChange c → Ready d
      → Cut d (change_stores d (run_store c d.store).state) n e
      → Goes d (cond (landed (run_store c d.store).state e) (c ∷ []) []) e
  -- a work or squeeze call, of any budget above i, that was cut in the step after i whole ones
  cut_step : {d e : Disk} {n : ℕ} (k : Kind) (i : ℕ) (t : List ℕ) → CallFits (stepping k (suc i)) → Ready d
      → accepted (run_disk (stepping k (suc i)) d).reply ≡ true
      → step_store k (run_disk (stepping k i) d).state.store ≡ next t
      → Cut (run_disk (stepping k i) d).state (change_stores (run_disk (stepping k i) d).state t) n e
      → Goes d (stepping k (steps_done (landed t e) i) ∷ []) e
  -- a recovery, whole or cut
  recovers : {d : Disk} → Goes d [] (recover d)
  cut_recovery : {d e : Disk} {n : ℕ} → Cut d (recovery_stores d) n e → Goes d [] e
  -- a wipe of a wiped head, whole or cut
  wipes : {d : Disk} → Ready d → Goes d [] (run (wipe ∷ []) d)
  cut_wipe : {d e : Disk} {n : ℕ} → Ready d → Cut d (wipe ∷ []) n e → Goes d [] e

-- one after the other
pub data Happens : Disk → (counts : List Call) → Disk → Type 0 where
  over : {d : Disk} → Happens d [] d
  and : {d e f : Disk} {cs ds : List Call} → Goes d cs e → Happens e ds f → Happens d (cs ++ ds) f
