-- What the tests of one entry tell: where it may stand.
use mathlib.Core.Path.{◌≡◌, sym, ◌∙◌}
use mathlib.Core.Logic.{◌≢◌}
use mathlib.Core.Bool.{Bool, true, ◌&&◌, ◌||◌}
use Prim.Native.Nat.{ℕ}
use borrow.Author.Tests.{eq-eqb, ne_eqb}
use lib.Dec.{eqb}
use Rattle.model.specs.declared.Phase.{Phase}
use Rattle.entries.specs.Tests.{stands_in}

pub stands-home : (phase : Phase) (h b : ℕ) → h ≡ b → stands_in phase h b ≡ true
stands-home Phase.None h b e = eq-eqb h b e
stands-home (Phase.Copying old new) h b e = rw (eq-eqb h b e)
stands-home (Phase.Clearing old new) h b e = rw (eq-eqb h b e)

-- in the chain of another bucket, during a job
module _ (x : Bool) (h b old new : ℕ) (job : x ≡ eqb h b || (eqb b old && eqb h new)) (away : h ≢ b) where
  pub stands-old : b ≡ old → eqb h new ≡ x
  stands-old e = sym (job ∙ rw (ne_eqb h b away, eq-eqb b old e))

  pub stands-nowhere : b ≢ old → eqb b old ≡ x
  stands-nowhere e = sym (job ∙ rw (ne_eqb h b away, ne_eqb b old e))
