-- A change of an index, pair by pair.
use Rattle.std.specs.Prelude.{◌≡◌, cond, ℕ}
use Rattle.std.proofs.Common.{sym, ap, subst}
use Rattle.page.specs.declared.Pair.{Pair}
use Rattle.page.specs.Pair.{same}
use Rattle.model.specs.Index.{Job, Index, bucket, new_bucket, old_bucket}
use Rattle.model.specs.WellFormed.{unmoved_at, moved_at, Placed, PlacedIn, WF}
use Rattle.model.specs.HeldIn.{held_no, held_in}
use Rattle.model.specs.PlacedLaws.{Turned}

-- y, with a pair held k times
abbrev pub TurnedTo : Index → Pair → ℕ → Type 0
TurnedTo y p k = Turned y.job (new_bucket y) (old_bucket y) (bucket y p) (unmoved_at y p) (moved_at y p) k

-- how often a pair p is held after the pair q was put in, after it was taken out, and after a step
abbrev pub with_pair : (q p : Pair) → ℕ → ℕ
with_pair q p k = cond (same p q) 1 k

abbrev pub without_pair : (q p : Pair) → ℕ → ℕ
without_pair q p k = cond (same p q) 0 k

abbrev pub unchanged : (p : Pair) → ℕ → ℕ
unchanged p k = k

-- in y pairs stand by the rules, and a pair p that x holds k times is held f p k times
pub record Becomes (f : Pair → ℕ → ℕ) (x y : Index) : Type 0 where
  pub placed : (p : Pair) → PlacedIn y p
  pub number : (p : Pair) → held_in y p ≡ f p (held_in x p)

pub becomes : (f : Pair → ℕ → ℕ) (x y : Index) → ((p : Pair) → TurnedTo y p (f p (held_in x p)))
    → Becomes f x y
unfolding held_in
becomes f x y t = record { placed = λ p. (t p).placed; number = λ p. (t p).number }

-- where the pairs stand, by a job that is known
pub placed_at : (x : Index) (j : Job) → WF x → x.job ≡ j → (p : Pair)
    → Placed j (new_bucket x) (old_bucket x) (bucket x p) (unmoved_at x p) (moved_at x p)
placed_at x j w e p =
    subst (λ (i : Job). Placed i (new_bucket x) (old_bucket x) (bucket x p) (unmoved_at x p) (moved_at x p)) e
    (w.placed p)

pub held_in-at : (x : Index) (j : Job) → x.job ≡ j → (p : Pair)
    → held_no j (new_bucket x) (old_bucket x) (bucket x p) (unmoved_at x p) (moved_at x p) ≡ held_in x p
unfolding held_in
held_in-at x j e p =
    ap (λ (i : Job). held_no i (new_bucket x) (old_bucket x) (bucket x p) (unmoved_at x p) (moved_at x p)) (sym e)
