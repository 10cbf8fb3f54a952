-- DEMAND 3, as a claim on any machine that runs the calls: docs/RULES.md 7. Open this file first.
--   Book      (Book.antt) what was inserted and not removed since, fed arguments and acceptance alone
--   history   (History.antt) the moments of a list of calls: after each call and after each single step
--   Always    (History.antt) at the start and at every moment of every list of calls
--   Faithful  what holds at a moment, by the calls' answers, the stored count and single steps
--   RoomIs    (Room.antt) when an insert or a step finds no room, and so gets 7
--   ShiftIs   (Shift.antt) what a squeeze's step moves, and when there is none
--   Demand3   all three always hold
use Rattle.std.specs.Prelude.{◌≡◌, ◌≢◌, ◌↔◌, ◌⊎◌, Bool, true, false, ◌||◌, List, [], ◌++◌, ℕ, zero, suc, ◌+◌, ◌*◌, ◌/◌, ◌≤◌, ◌<◌, eqb, length, drop}
use Rattle.std.specs.Prelude.{Ok, Err}
use Rattle.std.proofs.Math.Option.{Option, none, some}
use Rattle.std.proofs.Math.IntN.{sub_ℕ}
use Rattle.lists.specs.Lists.{bind}
use Rattle.address.specs.Address.{split_from}
use Rattle.page.specs.declared.Pair.{Pair}
use Rattle.page.specs.Pair.{ascending}
use Rattle.model.specs.declared.Order.{Order}
use Rattle.model.specs.declared.Refusal.{Refusal}
use Rattle.model.specs.Answers.{work_of}
use Rattle.model.specs.declared.Stop.{Stop}
use Rattle.model.specs.declared.Phase.{Phase}
use Rattle.model.specs.Index.{Index}
use Rattle.model.specs.Held.{self}
use Rattle.model.specs.Steps.{next, stopped}
use Rattle.model.specs.Calls.{format_ok, pair_ok, place_bytes}
use Rattle.model.specs.Machine.{formatting, inserting, removing, looking, squeezing, asking, CallFits, Kind}
use Rattle.model.specs.Machine.{of_splits, of_squeeze, stepping, plain, looked, worked, stands, Machine}
use Rattle.model.specs.Book.{Book, has, under, Split, no_split, since}
use Rattle.model.specs.History.{Moment, phase_at, Always}
use Rattle.model.specs.Room.{RoomIs}
use Rattle.model.specs.Shift.{ShiftIs}

-- a bucket of the job
abbrev pub of_job : Phase → (bucket : ℕ) → Bool
of_job Phase.None b = false
of_job (Phase.Copying old new) b = eqb b old || eqb b new
of_job (Phase.Clearing old new) b = eqb b old || eqb b new

module _ (M : Machine) where
  -- "with less room it gets 8 and that number", and the output stays
  pub record LookupsIs (bk : Book) (s : M.State) (h : ℕ) (out : List ℕ) : Type 0 where
    pub room : length (under h bk) ≤ length out / 6
        → (M.run (looking h out) s).reply
        ≡ looked (record {
          answer = Ok (length (under h bk));
          output = bind (under h bk) place_bytes ++ drop (6 * length (under h bk)) out;
        })
    pub short : length out / 6 < length (under h bk)
        → (M.run (looking h out) s).reply
        ≡ looked (record { answer = Err (Refusal.OutputShort (length (under h bk))); output = out })

  -- the job's two buckets, by the new one
  abbrev pub JobIs : (new : ℕ) → Phase → Type 0
  JobIs n Phase.None = Unit {0}
  JobIs n (Phase.Copying old new) = (old ≡ split_from n) × (new ≡ n)
  JobIs n (Phase.Clearing old new) = (old ≡ split_from n) × (new ≡ n)

  -- the state after n steps of a kind, if none of them stops
  abbrev pub after_steps : Kind → ℕ → M.State → Option M.State
  after_steps k zero s = some s
  after_steps k (suc n) s = elim (M.step k s) [ next t ↦ after_steps k n t | stopped r ↦ none ]

  -- the steps of a work or squeeze call were made, and it stopped because the budget was spent or for what the next
  -- step says
  pub record WorkIs (k : Kind) (s : M.State) (budget : ℕ) : Type 0 where
    pub steps : ℕ
    pub stop : Stop
    pub reply : (M.run (stepping k budget) s).reply ≡ worked (Ok (work_of steps stop))
    pub reached : after_steps k steps s ≡ some (M.run (stepping k budget) s).state
    -- "0 when the budget is spent"
    pub spent : (steps ≡ budget) ↔ (stop ≡ Stop.Spent)
    pub ended : steps ≢ budget
        → (steps < budget) × (M.step k (M.run (stepping k budget) s).state ≡ stopped stop)

  -- a squeeze of bucket b where there are n buckets: "a bucket above max bucket gets 2, then a bucket of a pending job
  -- 11", and any other is squeezed
  pub record SqueezeIs (n b : ℕ) (s : M.State) (budget : ℕ) : Type 0 where
    pub above : n ≤ b → (M.run (squeezing b budget) s).reply ≡ worked (Err Refusal.Number)
    pub busy : b < n → of_job (phase_at M s) b ≡ true
        → (M.run (squeezing b budget) s).reply ≡ worked (Err Refusal.Busy)
    pub free : b < n → of_job (phase_at M s) b ≡ false → WorkIs (of_squeeze b) s budget

  -- Before the first begin there is no job. Whatever calls come between, a split "is over within 2m + 3 of its own
  -- steps". Each removal may save it two; without one it takes them all, "and until then work never stops with 9".
  abbrev pub SplitIs : Split → M.State → Type 0
  SplitIs no_split s = phase_at M s ≡ Phase.None
  SplitIs (since r m k) s =
      (k + 2 * r < 2 * m + 3 → (phase_at M s ≢ Phase.None) × (M.step of_splits s ≢ stopped Stop.Idle))
      × (k ≡ 2 * m + 3 → phase_at M s ≡ Phase.None)
      × (k ≤ 2 * m + 3)

  -- What holds at a moment, of calls whose numbers are good: what others get is said by crate `outcomes`.
  pub record Faithful (t : Moment M) : Type 0 where
    -- the book lists each of its pairs once, ascending by hash, then block, then offset
    pub set : ascending self t.book ≡ true
    pub lookups : (h : ℕ) (out : List ℕ) → CallFits (looking h out) → LookupsIs t.book t.state h out
    pub count : M.stored t.state ≡ length t.book
    pub standing : (M.run asking t.state).reply
        ≡ stands (Ok (record {
          count = length t.book;
          buckets = 2 + t.begins;
          phase = phase_at M t.state;
          slack = sub_ℕ (t.fill * (2 + t.begins)) (length t.book);
        }))
    pub job : JobIs (1 + t.begins) (phase_at M t.state)
    -- a format with good numbers gets 12 exactly when it is not told to overwrite and the book isn't empty
    pub formats : (o : Order) → CallFits (formatting o) → format_ok o ≡ true
        → ((M.run (formatting o) t.state).reply ≡ plain (Err Refusal.InUse))
        ↔ ((o.overwrite ≡ 0) × (t.book ≢ []))
    -- and else is done
    pub formatted : (o : Order) → CallFits (formatting o) → format_ok o ≡ true
        → ((M.run (formatting o) t.state).reply ≡ plain (Ok tt))
        ⊎ ((M.run (formatting o) t.state).reply ≡ plain (Err Refusal.InUse))
    pub inserts : (p : Pair) → CallFits (inserting p) → pair_ok p ≡ true
        → ((M.run (inserting p) t.state).reply ≡ plain (Err Refusal.HeldAlready))
        ↔ (has t.book p ≡ true)
    -- an insert of another pair is done or finds no room
    pub inserted : (p : Pair) → CallFits (inserting p) → pair_ok p ≡ true → has t.book p ≡ false
        → ((M.run (inserting p) t.state).reply ≡ plain (Ok tt))
        ⊎ ((M.run (inserting p) t.state).reply ≡ plain (Err Refusal.NoRoom))
    pub removals : (p : Pair) → CallFits (removing p) → pair_ok p ≡ true
        → ((M.run (removing p) t.state).reply ≡ plain (Err Refusal.NotHeld)) ↔ (has t.book p ≡ false)
    pub removed : (p : Pair) → CallFits (removing p) → pair_ok p ≡ true → has t.book p ≡ true
        → (M.run (removing p) t.state).reply ≡ plain (Ok tt)
    pub works : (budget : ℕ) → budget ≤ 65535 → WorkIs of_splits t.state budget
    pub squeezes : (b budget : ℕ) → CallFits (squeezing b budget) → budget ≤ 65535
        → SqueezeIs (2 + t.begins) b t.state budget
    -- work stops with 9 exactly when there is no job and no split wanted
    pub rests : (M.step of_splits t.state ≡ stopped Stop.Idle)
        ↔ ((phase_at M t.state ≡ Phase.None) × (length t.book ≤ t.fill * (2 + t.begins)))
    pub splits : SplitIs t.split t.state

  -- of a machine whose states show an index
  abbrev pub Holds : (index : M.State → Index) → Moment M → Type 0
  Holds index t = Faithful t × RoomIs M index t × ShiftIs M index t

  abbrev pub Demand3 : (index : M.State → Index) → Type 0
  Demand3 index = Always M (Holds index)
