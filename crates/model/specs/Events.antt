-- A list of calls as the book is fed it (docs/RULES.md 7.1): "each call's arguments and whether the call was
-- accepted (gave 0)".
use Rattle.std.specs.Prelude.{Bool, true, false, cond, List, [], ◌∷◌}
use Rattle.std.proofs.Math.Option.{Option, none, some}
use Rattle.page.specs.declared.Pair.{Pair}
use Rattle.page.specs.Pair.{same}
use Rattle.model.specs.Machine.{Call, accepted, Machine}
use Rattle.model.specs.Book.{Book, Effect, empties, puts, takes, leaves, has_steps, effect, noted}

-- A call and whether it was accepted.
pub record Event : Type 0 where
  pub call : Call
  pub accepted : Bool

-- the events of a list of calls that a machine runs from the state s
abbrev pub events : (M : Machine) → List Call → M.State → List Event
events M [] s = []
events M (c ∷ cs) s =
    record { call = c; accepted = accepted (M.run c s).reply } ∷ events M cs (M.run c s).state

-- the book after the events, from the first to the last
abbrev pub book_after : List Event → Book → Book
book_after [] bk = bk
book_after (e ∷ es) bk = book_after es (cond e.accepted (noted (effect e.call) bk) bk)

-- whether a call of an effect bears on a pair: it puts it in, it leaves it out, or neither
abbrev pub bears : Pair → (accepted : Bool) → Effect → Option Bool
bears p false e = none
bears p true (empties o) = some false
bears p true (puts q) = cond (same p q) (some true) none
bears p true (takes q) = cond (same p q) (some false) none
bears p true leaves = none
bears p true (has_steps kind budget) = none

-- what the latest event that bears on a pair did
abbrev pub latest : Pair → List Event → Option Bool
latest p [] = none
latest p (e ∷ es) = elim (latest p es) [ some b ↦ some b | none ↦ bears p e.accepted (effect e.call) ]
