-- What the tests of the rules answer together.
use Rattle.std.proofs.Math.Option.{Option, none, some}
use Rattle.std.specs.Prelude.{ℕ, Result, Ok, Err}

-- what they fail with, by the lowest broken rule of a store whose checks are right
abbrev pub tested_as : Option ℕ → Result (Unit {0}) ℕ
tested_as none = Ok tt
tested_as (some r) = Err r
