-- A store that passed the tests, and what steps of either kind make of it.
use Rattle.std.specs.Prelude.{◌≡◌, Result, Ok, Err, List, ℕ}
use Rattle.model.specs.declared.Stop.{Stop}
use Rattle.model.specs.Steps.{next, stopped}
use Rattle.model.specs.Machine.{Kind}
use Rattle.image.specs.Decode.{meta_at}
use Rattle.journal.specs.Journal.{Disk}
use Rattle.cuts.specs.Journalled.{step_journalled}
use Rattle.view.specs.Reads.{Reads}

-- the store is read as its index
abbrev pub Sound : List ℕ → Type 0
Sound s = Reads s (meta_at s)

-- a step that left store and journal e, and told the next one x, or stopped
pub data Stepped (k : Kind) (d : Disk) {X : Type 0} : Result X Stop → Disk → Type 0 where
  moved : {x : X} {e : Disk} → step_journalled k d ≡ next e → Sound e.store → Stepped k d (Ok x) e
  stayed : {r : Stop} {e : Disk} → step_journalled k d ≡ stopped r → e ≡ d → Stepped k d (Err r) e
