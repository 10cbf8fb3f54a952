-- The moments of a list of calls on a machine (docs/RULES.md 7.3): at the start, after each single step of a work or
-- squeeze call, after each call.
use Rattle.std.specs.Prelude.{◌≡◌, Bool, true, false, List, [], ◌∷◌, ◌++◌, ℕ, zero, suc, ◌+◌}
use Rattle.lists.specs.Lists.{Each}
use Rattle.model.specs.declared.Order.{Order}
use Rattle.model.specs.declared.Phase.{Phase}
use Rattle.model.specs.Answers.{standing_of}
use Rattle.model.specs.Steps.{next, stopped}
use Rattle.model.specs.Machine.{Call, formatting, asking, CallFits, Kind, of_splits, of_squeeze, plain, looked}
use Rattle.model.specs.Machine.{worked, stands, accepted, Machine}
use Rattle.model.specs.Book.{Book, Effect, empties, puts, takes, leaves, has_steps, effect, noted, movers, Split}
use Rattle.model.specs.Book.{no_split, since, one_step, counted, filled, begun}

module _ (M : Machine) where
  abbrev State : Type 0
  State = M.State

  -- What is known after some calls and steps; the state is that of the machine.
  pub record Moment : Type 0 where
    pub state : State
    pub book : Book
    pub fill : ℕ
    pub begins : ℕ
    pub split : Split

  -- the phase that standing gives
  abbrev pub phase_at : State → Phase
  phase_at s =
      elim (M.run asking s).reply [
        | plain a ↦ Phase.None
        | looked l ↦ Phase.None
        | worked a ↦ Phase.None
        | stands a ↦ (standing_of a).phase
      ]

  -- a split's step at phase none is a begin
  abbrev pub step_at : Phase → Moment → State → Moment
  step_at Phase.None t s =
      record {
        state = s;
        book = t.book;
        fill = t.fill;
        begins = suc t.begins;
        split = since 0 (movers (2 + t.begins) t.book) 1;
      }
  step_at (Phase.Copying o n) t s =
      record { state = s; book = t.book; fill = t.fill; begins = t.begins; split = one_step t.split }
  step_at (Phase.Clearing o n) t s =
      record { state = s; book = t.book; fill = t.fill; begins = t.begins; split = one_step t.split }

  -- a squeeze's step is none of a split's: "the 2m + 3 count doesn't include them"
  abbrev pub stepped : Kind → Moment → State → Moment
  stepped of_splits t s = step_at (phase_at t.state) t s
  stepped (of_squeeze b) t s =
      record { state = s; book = t.book; fill = t.fill; begins = t.begins; split = t.split }

  -- after each single step of a work or squeeze call
  abbrev pub stages : Kind → (budget : ℕ) → Moment → List Moment
  stages k zero t = []
  stages k (suc n) t =
      elim (M.step k t.state) [ next s ↦ stepped k t s ∷ stages k n (stepped k t s) | stopped r ↦ [] ]

  abbrev pub last_of : Moment → List Moment → Moment
  last_of t [] = t
  last_of t (u ∷ us) = last_of u us

  -- the moments within a call, by whether it was accepted
  abbrev pub within : (accepted : Bool) → Effect → Moment → List Moment
  within false e t = []
  within true (empties o) t = []
  within true (puts p) t = []
  within true (takes p) t = []
  within true leaves t = []
  within true (has_steps kind budget) t = stages kind budget t

  -- the moment after a call that left the state s; a refused call leaves all but the state alone
  abbrev pub marked : (accepted : Bool) → Effect → Moment → State → Moment
  marked false e t s = record { state = s; book = t.book; fill = t.fill; begins = t.begins; split = t.split }
  marked true e t s =
      record {
        state = s;
        book = noted e t.book;
        fill = filled e t.fill;
        begins = begun e t.begins;
        split = counted e t.split;
      }

  abbrev pub after : Call → Moment → Moment
  after c t =
      let r = M.run c t.state in
      let a = accepted r.reply in
      marked a (effect c) (last_of t (within a (effect c) t)) r.state

  abbrev pub history : List Call → Moment → List Moment
  history [] t = []
  history (c ∷ cs) t =
      within (accepted (M.run c t.state).reply) (effect c) t ++ (after c t ∷ history cs (after c t))

  abbrev pub start : State → Order → Moment
  start s o = record { state = s; book = []; fill = o.fill; begins = 0; split = no_split }

  -- a claim at the start, when a format was accepted, and at every moment of every list of calls that follows; the
  -- numbers of all of them come as u32. A format in the list starts anew if it is accepted: demand 3 "counts from the
  -- last format that was accepted".
  abbrev pub Always : (Moment → Type 0) → Type 0
  Always P =
      (s : State) (o : Order) → CallFits (formatting o) → accepted (M.run (formatting o) s).reply ≡ true
      → (cs : List Call) → Each CallFits cs
      → let t = start (M.run (formatting o) s).state o in Each P (t ∷ history cs t)
