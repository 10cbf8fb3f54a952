-- Busy hours: a split's own steps, and whatever calls come between them.
use Rattle.std.specs.Prelude.{◌≡◌, ◌≢◌, ◌↔◌, Bool, true, false, ℕ, suc, ◌+◌, ◌*◌, ◌≤◌, eqb}
use Rattle.lists.specs.Lists.{any}
use Rattle.page.specs.declared.Pair.{Pair}
use Rattle.page.specs.Pair.{is}
use Rattle.model.specs.Index.{Job, idle, copying, clearing, Index, entries_at, bucket, new_bucket, old_bucket}
use Rattle.model.specs.Steps.{next}
use Rattle.model.specs.Machine.{Call, CallFits, of_splits, of_squeeze, accepted, Machine}
use Rattle.model.specs.Book.{Effect, empties, puts, takes, leaves, has_steps, effect}

-- "any inserts, removals, lookups and squeezes of other buckets between", accepted or refused: all but a format, which
-- ends the split, and work, whose steps are the split's own. A squeeze of one of a job's two buckets is refused.
abbrev pub Between : (accepted : Bool) → Effect → Type 0
Between false e = Unit {0}
Between true (empties o) = ⊥
Between true (puts p) = Unit {0}
Between true (takes p) = Unit {0}
Between true leaves = Unit {0}
Between true (has_steps of_splits budget) = ⊥
Between true (has_steps (of_squeeze b) budget) = Unit {0}

-- The steps that the removal of a pair saves a split: "only while copying, and only if its pair maps to the new bucket
-- and its original stands in the old chain: 2 if it is not yet copied, and 1 if it is".
abbrev pub saved_in : Job → (moves original copied : Bool) → ℕ
saved_in copying true true false = 2
saved_in copying true true true = 1
saved_in copying true false c = 0
saved_in copying false o c = 0
saved_in clearing m o c = 0
saved_in idle m o c = 0

unfoldable pub saved : Index → Pair → ℕ
saved x q =
    saved_in x.job (eqb (bucket x q) (new_bucket x)) (any (is q) (entries_at x (old_bucket x)))
    (any (is q) (entries_at x (new_bucket x)))

-- the steps that a call saves it
abbrev pub saves : (accepted : Bool) → Effect → Index → ℕ
saves false e x = 0
saves true (empties o) x = 0
saves true (puts p) x = 0
saves true (takes p) x = saved x p
saves true leaves x = 0
saves true (has_steps kind budget) x = 0

-- of a machine whose states show an index
module _ (M : Machine) (index : M.State → Index) where
  -- From s, which its begin left, a split's own steps, the begin included, and the calls between them, which saved so
  -- many, lead to a state. A work call is its steps; a step that stops is none.
  pub data Busy (s : M.State) : (own savings : ℕ) → M.State → Type 0 where
    begun : Busy s 1 0 s
    steps : {t u : M.State} {k l : ℕ} → Busy s k l t → (index t).job ≢ idle → M.step of_splits t ≡ next u
        → Busy s (suc k) l u
    calls : {t : M.State} {k l : ℕ} (c : Call) → CallFits c → Between (accepted (M.run c t).reply) (effect c)
        → Busy s k l t
        → Busy s k (l + saves (accepted (M.run c t).reply) (effect c) (index t)) (M.run c t).state

  -- a split that found m pairs to move, after so many own steps and with so many saved: it is over exactly when these
  -- are 2m + 3 together, and they are never more
  pub record OverIs (m own savings : ℕ) (t : M.State) : Type 0 where
    pub most : own + savings ≤ 2 * m + 3
    pub over : ((index t).job ≡ idle) ↔ (own + savings ≡ 2 * m + 3)
