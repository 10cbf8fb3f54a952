-- SPLITS FINISH IN BUSY HOURS (docs/RULES.md 7.11), the exact law, of the index as a value: a split that finds m pairs
-- to move is over exactly when its own steps and those that removals saved are 2m + 3 (`OverIs`, Busy.antt). The bound
-- that follows from it is part of demand 3 (`SplitIs`, Demand.antt).
use Rattle.std.specs.Prelude.{◌≡◌, true, ℕ, suc, ◌+◌, ◌*◌}
use Rattle.std.proofs.Common.{arith}
use Rattle.page.specs.declared.Pair.{Pair}
use Rattle.page.specs.Pair.{ascending}
use Rattle.model.specs.Index.{idle, Index}
use Rattle.model.specs.Held.{self, held}
use Rattle.model.specs.Steps.{next, step}
use Rattle.model.specs.Machine.{on_index}
use Rattle.model.specs.Book.{Book, has, movers}
use Rattle.model.specs.WellFormed.{WF}
use Rattle.model.specs.StepsLeft.{steps_left}
use Rattle.model.proofs.StepsLeftLaws.{step-steps_left, steps_left-at, steps_left-idle}
use Rattle.model.proofs.StepLaws.{step-wf}
use Rattle.model.proofs.BeginLaws.{begin-steps_left, begin-movers}
use Rattle.model.proofs.RunLaws.{run-wf}
use Rattle.model.specs.Busy.{Busy, begun, steps, calls, OverIs}
use Rattle.model.proofs.BusyLaws.{call-steps_left}

-- of the index as a machine, whose states are the indexes that they show
abbrev pub BusyIndex : Index → (own savings : ℕ) → Index → Type 0
BusyIndex = Busy on_index (λ x. x)

module _ (x : Index) (w : WF x) where
  busy-wf : {k l : ℕ} {y : Index} → BusyIndex x k l y → WF y
  busy-wf begun = w
  busy-wf (steps {t = y} {u = z} b j h) = step-wf y z (busy-wf b) h
  busy-wf (calls {t = y} c fits i b) = run-wf c fits y (busy-wf b)

  busy-steps_left : {k l : ℕ} {y : Index} → BusyIndex x k l y → steps_left y + (k + l) ≡ steps_left x + 1
  busy-steps_left begun = omega arith
  busy-steps_left (steps {t = y} {u = z} b j h) = omega (arith, busy-steps_left b, step-steps_left y z (busy-wf b) j h)
  busy-steps_left (calls {t = y} c fits i b) = omega (arith, busy-steps_left b, call-steps_left c fits y (busy-wf b) i)

-- a begin from x to y, and the pairs that x holds as a book
pub busy-over : (x y : Index) → WF x → x.job ≡ idle → step x ≡ next y
    → (bk : Book) → ascending self bk ≡ true → ((p : Pair) → has bk p ≡ held x p)
    → {k l : ℕ} {z : Index} → BusyIndex y k l z
    → OverIs on_index (λ x. x) (movers (suc x.max_bucket) bk) k l z
busy-over x y w j h bk a e {k} {l} {z} b =
    let left : steps_left z + (k + l) ≡ 2 * movers (suc x.max_bucket) bk + 3 =
    omega (
      arith,
      busy-steps_left y (step-wf x y w h) b,
      begin-steps_left x y w j h,
      begin-movers x y w j h bk a e,
    ) in
    record {
      most = omega (arith, left);
      over = (λ i. omega (arith, left, steps_left-at z idle i), λ i. steps_left-idle z (omega (arith, left)));
    }
