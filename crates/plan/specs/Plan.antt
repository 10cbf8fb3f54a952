-- A plan: a change, with its images, that makes the store of one index that of another; and what planned calls, steps and puts
-- come to.
use Rattle.std.specs.Prelude.{◌≡◌, ◌≢◌, Bool, true, false, Result as Outcome, Ok, Err, List, ℕ}
use Rattle.std.proofs.Math.Option.{Option, none, some}
use Rattle.lists.specs.Block.{block}
use Rattle.store.specs.declared.Change.{Change}
use Rattle.store.specs.Change.{Fits}
use Rattle.store.specs.Finish.{finished}
use Rattle.model.specs.declared.Refusal.{Refusal}
use Rattle.model.specs.Answers.{Answer}
use Rattle.model.specs.declared.Stop.{Stop}
use Rattle.model.specs.Index.{Index}
use Rattle.model.specs.Steps.{Step, next, stopped}
use Rattle.model.specs.Calls.{Result, done, refused}
use Rattle.image.specs.Layout.{encode}
use Rattle.draft.specs.Draft.{Listed}

-- the change, sealed and written, makes the store s that of y, and lists exactly the blocks that it alters
pub record Plans (s : List ℕ) (c : Change) (images : List ℕ) (y : Index) : Type 0 where
  pub fits : Fits s c.numbers c.count
  pub makes : finished s c images ≡ encode y
  pub alters : (k : ℕ) → Listed c k → block s k ≢ block (encode y) k

module _ (s : List ℕ) (c : Change) (images : List ℕ) where
  -- a call: the accepted one is planned, a refused one changes nothing
  pub data Settles : Result → Answer → Type 0 where
    accepted : {y : Index} → Plans s c images y → Settles (done y) (Ok tt)
    declined : {r : Refusal} → c.count ≡ 0 → Settles (refused r) (Err r)

  -- a step, which goes on with some value, or a stop
  pub data Advances {X : Type 0} : Step Index → Outcome X Stop → Type 0 where
    advanced : {y : Index} {x : X} → Plans s c images y → Advances (next y) (Ok x)
    halted : {r : Stop} → c.count ≡ 0 → Advances (stopped r) (Err r)

  -- an entry put into a chain
  pub data Places : Option Index → (room : Bool) → Type 0 where
    placed : {y : Index} → Plans s c images y → Places (some y) true
    full : c.count ≡ 0 → Places none false
