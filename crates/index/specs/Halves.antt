-- Where the n-th block store of a plan writes, as the code answers it.
use Rattle.std.specs.Prelude.{cond, List, [], ℕ, Result, Ok, Err}
use Rattle.model.specs.declared.Refusal.{Refusal}
use Rattle.model.specs.declared.Place.{Place}
use Rattle.journal.specs.Journal.{disk}
use Rattle.journal.specs.Planned.{plan_store}
use Rattle.cuts.specs.Halves.{place_of, store_ok}

abbrev pub PlaceFound : Type 0
PlaceFound = Result Place Refusal

-- refusal 2 where the plan has no n-th block store, or where that one is outside of the store
abbrev pub planned_place : (store plan : List ℕ) → (n : ℕ) → PlaceFound
planned_place s p n = cond (store_ok (disk s []) p n) (Ok (place_of (plan_store p n))) (Err Refusal.Number)
