-- All block stores of a plan, each by the call that does the n-th one. docs/RULES.md 11.9.
use Rattle.std.specs.Prelude.{◌≡◌, List, ℕ, zero, suc, ◌≤◌, ◌<◌, length, Ok}
use Rattle.journal.specs.Journal.{Disk, write}
use Rattle.journal.specs.Altered.{change_stores}
use Rattle.journal.specs.Cut.{Cut, Torn}
use Rattle.journal.specs.Planned.{plan_store}
use Rattle.cuts.specs.Halves.{place_of, store_outcome}

-- n of them, from number i on
abbrev pub do_stores : (plan : List ℕ) → (i n : ℕ) → Disk → Disk
do_stores p i zero d = d
do_stores p i (suc n) d = do_stores p (suc i) n (store_outcome d p i).disk

-- each of them is done, and says where
abbrev pub AllDone : (plan : List ℕ) → (i n : ℕ) → Disk → Type 0
AllDone p i zero d = Unit {0}
AllDone p i (suc n) d =
    ((store_outcome d p i).answer ≡ Ok (place_of (plan_store p i))) × AllDone p (suc i) n (store_outcome d p i).disk

-- The n block stores of a plan are those of the change of d's store to t; in order, from 0 on, they leave e, and
-- the first k of them what the change leaves that is cut when k are done.
pub record InOrder (d : Disk) (plan : List ℕ) (n : ℕ) (t : List ℕ) (e : Disk) : Type 0 where
  pub stores : n ≡ length (change_stores d t)
  pub each : AllDone plan 0 n d
  pub leaves : do_stores plan 0 n d ≡ e
  pub cuts : (k : ℕ) → k ≤ n → Cut d (change_stores d t) k (do_stores plan 0 k d)
  -- or inside the next one
  pub torn : (k : ℕ) (g : List ℕ) → k < n → Torn (plan_store plan k) g
      → Cut d (change_stores d t) k (write (plan_store plan k) g (do_stores plan 0 k d))
